-- Document 01's reading of a slice of words as a chunk: the contents table, the bodies, well formed, settled, the entries.
use Rattle.std.specs.Prelude.{ℕ, suc, ◌+◌, ◌*◌, ◌-◌, Bool, true, not, ◌&&◌, ◌||◌, leb, ltb, eqb, length, take, drop, get_or}
use mathlib.Core.List.{List, [], ◌∷◌, ◌++◌, map, flat_map, zip_with}
use Rattle.chunk.specs.Entry.{Entry, every}

-- the count of keys
abbrev pub nk : List ℕ → ℕ
nk w = get_or w 0 0

-- of values
abbrev pub nv : List ℕ → ℕ
nv w = get_or w 1 0

-- of times
abbrev pub nt : List ℕ → ℕ
nt w = get_or w 2 0

-- of diffs
abbrev pub nd : List ℕ → ℕ
nd w = get_or w 3 0

-- the words before each body
abbrev pub table_size : ℕ
table_size = 4

-- the size: the table and the seven bodies
abbrev pub size : List ℕ → ℕ
size w = table_size + 2 * nk w + 2 * nv w + 2 * nt w + nd w

-- the slice holds the four words and the size
abbrev pub table_fits : List ℕ → Bool
table_fits w = leb table_size (length w) && leb (size w) (length w)

-- so many words from a place on
abbrev pub body : ℕ → ℕ → List ℕ → List ℕ
body at n w = take n (drop at w)

-- nk keys
abbrev pub key_body : List ℕ → List ℕ
key_body w = body table_size (nk w) w

-- nk value ends
abbrev pub val_end_body : List ℕ → List ℕ
val_end_body w = body (table_size + nk w) (nk w) w

-- nv values
abbrev pub val_body : List ℕ → List ℕ
val_body w = body (table_size + 2 * nk w) (nv w) w

-- nv time ends
abbrev pub time_end_body : List ℕ → List ℕ
time_end_body w = body (table_size + 2 * nk w + nv w) (nv w) w

-- nt times
abbrev pub time_body : List ℕ → List ℕ
time_body w = body (table_size + 2 * nk w + 2 * nv w) (nt w) w

-- nt diff ends
abbrev pub diff_end_body : List ℕ → List ℕ
diff_end_body w = body (table_size + 2 * nk w + 2 * nv w + nt w) (nt w) w

-- nd diffs
abbrev pub diff_body : List ℕ → List ℕ
diff_body w = body (table_size + 2 * nk w + 2 * nv w + 2 * nt w) (nd w) w

-- items cut into lists at their ends; list 0 starts at 0
unfoldable pub lists {ℓ} : {A : Type ℓ} → ℕ → List ℕ → List A → List (List A)
lists from [] items = []
lists from (e ∷ ends) items = take (e - from) items ∷ lists e ends (drop (e - from) items)

-- from above `low` strictly up to `top`, which the last one is; no ends only for 0
unfoldable pub ends_rise : ℕ → List ℕ → ℕ → Bool
ends_rise low [] top = eqb low top
ends_rise low (e ∷ ends) top = ltb low e && ends_rise e ends top

-- each end the previous one or one more, the last one `top`
unfoldable pub ends_step : ℕ → List ℕ → ℕ → Bool
ends_step low [] top = eqb low top
ends_step low (e ∷ ends) top = (eqb e low || eqb e (suc low)) && ends_step e ends top

-- strictly rising, from above a number on
unfoldable pub rises_from : ℕ → List ℕ → Bool
rises_from a [] = true
rises_from a (b ∷ l) = ltb a b && rises_from b l

-- strictly rising
unfoldable pub rises : List ℕ → Bool
unfolding rises_from
rises [] = true
rises (a ∷ l) = rises_from a l

-- the most times that a chunk may have
abbrev pub limit : ℕ
limit = 1048576

-- all three are zero, or none is
abbrev pub all_or_none : ℕ → ℕ → ℕ → Bool
all_or_none a b c = (eqb a 0 && eqb b 0 && eqb c 0) || (ltb 0 a && ltb 0 b && ltb 0 c)

-- well formed: the ten conditions, in the order of document 01 but for the keys, which come after the ends
unfoldable pub well_formed : List ℕ → Bool
unfolding ends_rise ends_step rises rises_from lists every
well_formed w =
    table_fits w
    && (leb (nt w) limit
    && (all_or_none (nk w) (nv w) (nt w)
    && (ends_rise 0 (val_end_body w) (nv w)
    && (ends_rise 0 (time_end_body w) (nt w)
    && (rises (key_body w)
    && (every rises (lists 0 (val_end_body w) (val_body w))
    && (every rises (lists 0 (time_end_body w) (time_body w))
    && (ends_step 0 (diff_end_body w) (nd w)
    && every (λ (d : ℕ). not (eqb d 0)) (diff_body w)))))))))

-- settled: nd = nt
abbrev pub settled : List ℕ → Bool
settled w = eqb (nd w) (nt w)

-- the entries, by the four layers of lists
unfoldable pub head_or_0 : List ℕ → ℕ
head_or_0 [] = 0
head_or_0 (d ∷ l) = d

-- key by key, value by value, time by time
unfoldable pub entries : List ℕ → List Entry
unfolding lists head_or_0 flat_map zip_with
entries w =
    let timed : List (ℕ × List ℕ) = zip_with (λ t ds. (t, ds)) (time_body w) (lists 0 (diff_end_body w) (diff_body w)) in
    let valued : List (ℕ × List (ℕ × List ℕ)) = zip_with (λ v ts. (v, ts)) (val_body w) (lists 0 (time_end_body w) timed) in
    let keyed : List (ℕ × List (ℕ × List (ℕ × List ℕ))) = zip_with (λ k vs. (k, vs)) (key_body w) (lists 0 (val_end_body w) valued) in
    flat_map (λ (k : ℕ × List (ℕ × List (ℕ × List ℕ))).
    flat_map (λ (v : ℕ × List (ℕ × List ℕ)).
    map (λ (t : ℕ × List ℕ). record { key = k.0; val = v.0; time = t.0; diff = head_or_0 t.1 }) v.1)
    k.1) keyed

-- a chunk at the front of a lent slice, the words past it unchanged
abbrev pub over : List ℕ → List ℕ → List ℕ
over new out = new ++ drop (length new) out
