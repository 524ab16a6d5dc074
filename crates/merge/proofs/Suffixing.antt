-- One report for each layer, of all that is left from a cursor on: each lies under the one above, and the entries that they name are those from the
-- cursor's time on.
use Rattle.std.proofs.Common.{◌≡◌, ℕ, zero, suc, ◌+◌, ◌-◌, ◌<◌, ◌≤◌, Bool, true, ltb, List, [], ◌∷◌, ◌++◌, length, get_or, take, drop, sym, ap, ◌∙◌, append-nil, arith, length-drop, take_all, ltb-false, ltb-true, eqb-true}
use lib.ListN.{length-map}
use Rattle.laws.proofs.Tests.{by_test, and_right}
use Rattle.laws.proofs.Groups.{Alike, alike-key, alike_list}
use Rattle.laws.proofs.OneChunk.{settled_stands}
use Rattle.chunk.specs.Entry.{Entry, stands, every, same_list}
use Rattle.chunk.specs.Bodies.{lasts_of, same_key, keys, vals, val_ends, time_ends, chunk_of}
use Rattle.chunk.specs.Contents.{start_of}
use Rattle.chunk.specs.Words.{entries, ends_rise, limit, over}
use Rattle.chunk.specs.declared.Contents.{Contents}
use Rattle.meld.proofs.Counts.{val_ends_count, time_ends_count, vals_fewer}
use Rattle.merge.specs.declared.Cursor.{Cursor}
use Rattle.merge.specs.declared.Spans.{Spans}
use Rattle.reports.specs.Survey.{this, below}
use Rattle.reports.specs.Scratch.{reports_at}
use Rattle.merge.specs.Suffix.{place_of, Ready}
use Rattle.reports.specs.Woven.{apart}
use Rattle.reports.specs.Write.{Run, ended, first, items_by, entries_by, widths}
use Rattle.reports.specs.Layered.{Layered}
use Rattle.merge.specs.Weft.{Weft, named}
use Rattle.reports.specs.Whole.{Whole}
use Rattle.reports.proofs.Bodies.{key-itself, list_itself}
use Rattle.reports.proofs.Covering.{ends_last}
use Rattle.reports.proofs.Cutting.{FromPlace}
use Rattle.reports.proofs.Galloping.{length-between}
use Rattle.reports.proofs.Moving.{Reading, reading}
use Rattle.reports.proofs.Rows.{drop-apart, lasts_apart}
use Rattle.merge.proofs.Sounding.{sound_place}
use Rattle.reports.proofs.Surveying.{start_up}
use Rattle.merge.proofs.Wefting.{ends-rise}
use Rattle.reports.proofs.WriteEntries.{diffs_all}

-- ---- the list of an item

-- what stands before the first end past x ends at or before it
below_under : (x : ℕ) (ends : List ℕ) (j : ℕ) → j < below x ends → get_or ends j 0 < x
unfolding below
below_under x [] j h = absurd (omega arith)
below_under x (e ∷ ends) zero h = by_test (ltb e x) (λ p. ltb-true e x p) (λ p. absurd (let k : 0 < 0 = rw p at h in omega arith))
below_under x (e ∷ ends) (suc j) h =
    by_test (ltb e x)
    (λ p. below_under x ends j (let k : suc j < suc (below x ends) = rw p at h in omega arith))
    (λ p. absurd (let k : suc j < 0 = rw p at h in omega arith))

-- there is one where x isn't past the last of them
below-there : (x low top : ℕ) (ends : List ℕ) → ends_rise low ends top ≡ true → low < x → x ≤ top → (below x ends < length ends) × (x ≤ get_or ends (below x ends) 0)
unfolding below ends_rise
below-there x low top [] h a b = absurd (omega (arith, eqb-true low top h))
below-there x low top (e ∷ ends) h a b =
    by_test (ltb e x)
    (λ p. let r = below-there x e top ends (and_right (ltb low e) _ h) (ltb-true e x p) b in rw p (omega (arith, r.0), r.1))
    (λ p. rw p (omega arith, ltb-false e x p))

-- the items from x on are those of its list and of the lists after it
run_left : (ends : List ℕ) (top x k h : ℕ) → ends_rise 0 ends top ≡ true → below (x + 1) ends ≡ k → length ends ≡ h → x < top → Run ends k h x top
run_left ends top x k h r e n f =
    let b = below-there (x + 1) 0 top ends r (omega arith) (omega arith) in
    let i : k < length ends = rw e at b.0 in
    let o : x + 1 ≤ get_or ends k 0 = rw e at b.1 in
    let s : length ends ≡ suc (h - 1) = omega arith in
    let l : get_or ends (h - 1) 0 ≡ top = ends_last 0 top ends (h - 1) r s in
    record {
      some = omega arith;
      there = omega arith;
      from = starts k (λ j m. below_under (x + 1) ends j (rw e m));
      reached = omega arith;
      left = omega (arith, (start_up ends top (h - 1) r (omega arith)).0);
      to = omega arith;
      full = f;
    }
  where
    starts : (k : ℕ) → ((j : ℕ) → j < k → get_or ends j 0 < x + 1) → start_of ends k ≤ x
    starts zero q = omega arith
    starts (suc j) q = omega (arith, q j (omega arith))

-- ---- the lists that are left

-- all from a place on
pub rest_named {ℓ} : {A : Type ℓ} (k n : ℕ) (l : List A) → length l ≡ n → take (n - k) (drop k l) ++ [] ≡ drop k l
rest_named k n l e = append-nil (take (n - k) (drop k l)) ∙ take_all (n - k) (drop k l) (omega (arith, length-drop k l))

module _ (same : Entry → Entry → Bool) (alike : Alike same) (itself : (a : Entry) → same a a ≡ true) where
  -- the lasts from one on are unlike
  pub rest_apart : (k n : ℕ) (es : List Entry) → length (lasts_of same es) ≡ n → apart same (items_by (lasts_of same es) (lasts_of same es) (this k n ∷ [])) ≡ true
  unfolding items_by
  rest_apart k n es e = rw (rest_named k n (lasts_of same es) e) (drop-apart same alike itself k (lasts_of same es) (lasts_apart same alike itself es))

-- ---- from a cursor on

module _ (es : List Entry) (k v t : ℕ) (few : length es ≤ limit) (h : t < length es) (f : FromPlace es k v t) where
  abbrev nkeys : ℕ
  nkeys = length (keys es)

  abbrev nvals : ℕ
  nvals = length (vals es)

  long_keys : length (lasts_of same_key es) ≡ nkeys
  long_keys = sym (length-map (lasts_of same_key es) (λ (e : Entry). e.key))

  long_vals : length (lasts_of same_list es) ≡ nvals
  long_vals = sym (length-map (lasts_of same_list es) (λ (e : Entry). e.val))

  vals_rise_lem : ends_rise 0 (val_ends es) nvals ≡ true
  vals_rise_lem = rw (← long_vals) (ends-rise same_key alike-key key-itself (lasts_of same_list es))

  -- the reports of what is left lie under each other
  pub left-layered : Layered es es (this k nkeys ∷ []) (this v nvals ∷ []) (this t (length es) ∷ [])
  unfolding widths
  left-layered =
      record {
        vals_under = first (run_left (val_ends es) nvals v k nkeys vals_rise_lem f.k_is (val_ends_count es) f.v_in) ended;
        times_under = first (run_left (time_ends es) (length es) t v nvals (ends-rise same_list alike_list list_itself es) f.v_is (time_ends_count es) h) ended;
        keys_inside = (omega arith, f.k_in, omega arith, record {});
        vals_inside = (omega arith, f.v_in, omega arith, record {});
        keys_level = record {};
        vals_level = record {};
        keys-apart = rest_apart same_key alike-key key-itself k nkeys es long_keys;
        vals-apart = rest_apart same_list alike_list list_itself v nvals es long_vals;
        few-vals = omega (arith, vals_fewer es, few);
        few-times = omega (arith, few);
        few0 = few;
        few1 = few;
      }

-- where one report of each layer stands
abbrev pub one_each : Spans
one_each = record { keys = 1; vals_at = 3; vals = 1; times_at = 6; times = 1 }

-- the words of those of a cursor
abbrev pub left_words : Contents → Cursor → List ℕ
left_words c p = 0 ∷ p.k ∷ c.nk ∷ 0 ∷ p.v ∷ c.nv ∷ 0 ∷ p.t ∷ c.nt ∷ []

module _ (w : List ℕ) (c : Contents) (p : Cursor) (out : List ℕ) (y : Ready w c p out) where
  r : Reading w c
  r = reading w c y.chunk

  all : every stands (entries w) ≡ true
  all = sym (settled_stands w y.chunk.formed) ∙ y.settles

  count-keys : length (keys (entries w)) ≡ c.nk
  count-keys = ap length (sym r.key_words) ∙ length-between c.keys_at c.val_ends_at w (omega (arith, r.val_placed, r.time_end_place, r.time_placed, r.diff_end_place, r.diff_place, r.end_place, r.whole)) ∙ omega (arith, r.val_end_place)

  count-vals : length (vals (entries w)) ≡ c.nv
  count-vals = ap length (sym r.val_words) ∙ length-between c.vals_at c.time_ends_at w (omega (arith, r.time_placed, r.diff_end_place, r.diff_place, r.end_place, r.whole)) ∙ omega (arith, r.time_end_place)

  count-diffs : c.nd ≡ c.nt
  count-diffs =
      omega (arith, r.end_place) ∙ sym (length-between c.diffs_at c.size w r.whole) ∙ ap length (r.diff_words ∙ diffs_all (entries w) all)
      ∙ length-map (entries w) (λ (e : Entry). e.diff) ∙ r.counted

  -- the reports are what a chunk is written from
  pub left_weft : (n : ℕ) → n ≡ length out → Weft w c w c (left_words c p) one_each n
  unfolding reports_at widths
  left_weft n e =
      let s = sound_place (entries w) (place_of p) y.sound in
      let l : Layered (entries w) (entries w) (this p.k c.nk ∷ []) (this p.v c.nv ∷ []) (this p.t c.nt ∷ []) =
      rw (← count-keys, ← count-vals, ← r.counted) (left-layered (entries w) p.k p.v p.t (omega (arith, r.counted, r.small)) s.0 s.1) in
      let it : Whole w c = record { chunk = y.chunk; settles = y.settles } in
      record {
        first = it;
        second = it;
        keys_stand = omega arith;
        vals_stand = omega arith;
        times_stand = omega arith;
        layered = l;
        fits = omega (arith, count-diffs, y.room, r.its_size, r.key_placed, r.val_end_place, r.val_placed, r.time_end_place, r.time_placed, r.diff_end_place, r.diff_place, r.end_place);
      }

  -- and name the entries from the cursor's time on
  pub left-named : named w w (left_words c p) one_each ≡ drop p.t (entries w)
  unfolding named entries_by reports_at
  left-named = rest_named p.t c.nt (entries w) r.counted

  pub left-written : (last : List ℕ) → last ≡ over (chunk_of (named w w (left_words c p) one_each)) out → last ≡ over (chunk_of (drop p.t (entries w))) out
  left-written last e = e ∙ ap (λ (es : List Entry). over (chunk_of es) out) left-named
