-- What holds of the held chunks and the taken updates holds after each call.
use Prim.Native.Nat.{ℕ, zero, suc, ◌≤◌, ◌+◌, ◌/◌}
use mathlib.Core.Path.{◌≡◌, refl, ap, ap₂, ◌∙◌}
use mathlib.Core.Bool.{Bool, true, false, cond, not, ◌&&◌}
use mathlib.Core.List.{List, [], ◌∷◌, ◌++◌}
use native.Mathlib.Omega.{arith}
use lib.Dec.{eqb}
use borrow.Author.Tests.{ltb-true, ltb-false, not-true, not-false}
use lib.ListN.{length, take, drop}
use lib.IntN.{◌+ℤ◌, +ℤ_comm, +ℤ_idr}
use Rattle.chunk.specs.Entry.{Entry, stands, every, keep}
use Rattle.chunk.specs.Words.{entries, nt, limit}
use Rattle.chunk.specs.Sums.{total}
use Rattle.sort.specs.Sort.{updates, sort}
use Rattle.form.specs.Form.{formed, falls, in_range, form_number, form_out, unsorted_number, unsorted_out}
use Rattle.reports.specs.Merge.{merged, Place, Survives, nobody, the_first, the_second, merge_out, suffix_number, suffix_out}
use Rattle.retain.specs.Frontier.{is_open}
use Rattle.retain.specs.Cut.{filter_number, filter_out}
use Rattle.split.specs.Cut.{split_number, split_first, split_rest}
use Rattle.retain.specs.Extract.{extract_number, kept_of, shipped_of, kept_out, shipped_out}
use Rattle.meld.specs.Meld.{meld_number, meld_out}
use Rattle.whole.specs.Whole.{survives, whole_number, rest_number, rest_out, clean_out, left_out}
use Rattle.whole.proofs.Parts.{Accepted, whole_accepted}
use Rattle.laws.specs.OneChunk.{is_word, fits}
use Rattle.laws.proofs.Tests.{and_left, and_right, and_both}
use Rattle.laws.proofs.Order.{keep-rising}
use Rattle.sort.proofs.Updates.{count_whole}
use Rattle.form.proofs.Sorted.{sort-every, sort-length, sort_unfallen}
use Rattle.form.proofs.Formed.{formed_rises, formed-stands, formed-length, formed-total}
use Rattle.reports.specs.Theorems.{left_of}
use Rattle.reports.proofs.Merged.{merged_rises, merged_short, totals_kept}
use Rattle.split.proofs.Records.{total-append, total_cut}
use Rattle.retain.proofs.Records.{total-keep, total_filtered, keep-every, keep_passes}
use Rattle.ledger.specs.Ledger.{State, Call, form, form_unsorted, split, extract, meld, merge, start, at, without, without_two, holds, holds_two, accepted, swap, rest_held, merged_state, after, run, held_total, call_fits}
use Rattle.ledger.proofs.Ordered.{Passed, passed}
use Rattle.ledger.proofs.Tests.{form_tests, form_first, unsorted_tests, unsorted_first, meld_tests, meld_first}
use Rattle.ledger.proofs.Lists.{every_append, every-get_or, length-keep}
use Rattle.ledger.proofs.Clean.{Clean, clean_take, clean_drop, clean_keep, clean_append, sound, Holds, clean_of, counted_of, written_holds}
use Rattle.ledger.proofs.Merging.{merge_passed, merge_few, merge_says}
use Rattle.ledger.proofs.Held.{every-without, every-without_two, held_append, held_without, held_without_two}
use Rattle.ledger.proofs.Sorting.{sort-total}
use Rattle.ledger.proofs.Fitting.{formed-fits, merged-fits}

-- ---- what holds after any calls

pub record Inv (s : State) : Type 0 where
  pub sounds : every sound s.held ≡ true
  pub sum : (k v t : ℕ) → held_total k v t s.held ≡ total k v t s.taken

accepted_inv : (n : ℕ) (new s : State) → Inv s → (n ≡ 0 → Inv new) → Inv (accepted n new s)
accepted_inv zero new s i f = f refl
accepted_inv (suc n) new s i f = i

when_inv : (b : Bool) (new s : State) → Inv s → (b ≡ true → Inv new) → Inv (cond b new s)
when_inv true new s i f = f refl
when_inv false new s i f = i

-- slices that are held, by what they say
held_one : (k v t : ℕ) (w : List ℕ) (es : List Entry) → Holds es w → held_total k v t (w ∷ []) ≡ total k v t es
unfolding held_total
held_one k v t w es h = +ℤ_idr (total k v t (entries w)) ∙ ap (total k v t) h.reads

held_pair : (k v t : ℕ) (w x : List ℕ) (es fs : List Entry) → Holds es w → Holds fs x → held_total k v t (w ∷ x ∷ []) ≡ total k v t es +ℤ total k v t fs
unfolding held_total
held_pair k v t w x es fs h g = cc (held_one k v t x fs g, h.reads)

every_one : (w : List ℕ) (es : List Entry) → Holds es w → every sound (w ∷ []) ≡ true
unfolding every
every_one w es h = and_both (sound w) _ h.sounds refl

every_pair : (w x : List ℕ) (es fs : List Entry) → Holds es w → Holds fs x → every sound (w ∷ x ∷ []) ≡ true
unfolding every
every_pair w x es fs h g = and_both (sound w) _ h.sounds (every_one x fs g)

-- a form: its chunk is held, and its updates are taken
take_in : (s : State) (w : List ℕ) (es us : List Entry) → Inv s → Holds es w → ((k v t : ℕ) → total k v t es ≡ total k v t us)
    → Inv (record { held = s.held ++ (w ∷ []); taken = s.taken ++ us })
take_in s w es us i h f =
    record {
      sounds = every_append sound s.held (w ∷ []) i.sounds (every_one w es h);
      sum = λ k v t. cc (held_append k v t s.held (w ∷ []), i.sum k v t, held_one k v t w es h, f k v t, total-append k v t s.taken us);
    }

-- chunks that go, and others that say the same
exchange : (s : State) (left new : List (List ℕ)) → Inv s → every sound left ≡ true → every sound new ≡ true
    → ((k v t : ℕ) → held_total k v t s.held ≡ held_total k v t new +ℤ held_total k v t left) → Inv (swap s left new)
exchange s left new i l n f =
    record {
      sounds = every_append sound left new l n;
      sum = λ k v t. cc (held_append k v t left new, +ℤ_comm (held_total k v t left) (held_total k v t new), f k v t, i.sum k v t);
    }

exchange_one : (s : State) (i : ℕ) (new : List (List ℕ)) → Inv s → holds s i ≡ true → every sound new ≡ true
    → ((k v t : ℕ) → held_total k v t new ≡ total k v t (entries (at s i))) → Inv (swap s (without i s.held) new)
exchange_one s i new c h n f =
    exchange s (without i s.held) new c (every-without sound i s.held c.sounds) n
    (λ k v t. cc (held_without k v t i s.held (ltb-true _ _ h), f k v t))

exchange_two : (s : State) (i j : ℕ) (new : List (List ℕ)) → Inv s → holds_two s i j ≡ true → every sound new ≡ true
    → ((k v t : ℕ) → held_total k v t new ≡ total k v t (entries (at s i)) +ℤ total k v t (entries (at s j))) → Inv (swap s (without_two i j s.held) new)
exchange_two s i j new c h n f =
    let hj : (holds s j && not (eqb i j)) ≡ true = and_right (holds s i) _ h in
    exchange s (without_two i j s.held) new c (every-without_two sound i j s.held c.sounds) n
    (λ k v t. cc (held_without_two k v t i j s.held (ltb-true _ _ (and_left (holds s i) (holds s j && not (eqb i j)) h)) (ltb-true _ _ (and_left (holds s j) (not (eqb i j)) hj)) (not-true _ (and_right (holds s j) (not (eqb i j)) hj)), f k v t))

sound-at : (s : State) (i : ℕ) → Inv s → holds s i ≡ true → sound (at s i) ≡ true
sound-at s i c h = every-get_or sound s.held i [] c.sounds (ltb-true _ _ h)

-- ---- updates in words

updates-fit : (us : List ℕ) → every is_word us ≡ true → every fits (updates us) ≡ true
unfolding updates every
updates-fit [] h = refl
updates-fit (k ∷ []) h = refl
updates-fit (k ∷ v ∷ []) h = refl
updates-fit (k ∷ v ∷ t ∷ []) h = refl
updates-fit (k ∷ v ∷ t ∷ d ∷ us) h =
    let a : (is_word d && every is_word us) ≡ true = and_right (is_word t) _ (and_right (is_word v) _ (and_right (is_word k) _ h)) in
    and_both (is_word d) _ (and_left (is_word d) _ a) (updates-fit us (and_right (is_word d) _ a))

-- what form makes of updates that never fall
clean_formed : (us : List Entry) → falls us ≡ false → every fits us ≡ true → length us ≤ limit → Clean (formed us)
clean_formed us f w l =
    record { rise = formed_rises us f; stand = formed-stands us; fit = formed-fits us w; small = omega (arith, formed-length us) }

-- ---- the tests of an accepted call

form-passed : (us out : List ℕ) → form_number us out ≡ 0 → Passed (form_tests us out)
unfolding every
form-passed us out h = passed (form_tests us out) refl (rw form_first at h)

unsorted_passed : (us out : List ℕ) → unsorted_number us out ≡ 0 → Passed (unsorted_tests us out)
unfolding every
unsorted_passed us out h = passed (unsorted_tests us out) refl (rw unsorted_first at h)

meld-passed : (a b out : List ℕ) → meld_number a b out ≡ 0 → Passed (meld_tests a b out)
unfolding every
meld-passed a b out h = passed (meld_tests a b out) refl (rw meld_first at h)

-- ---- the calls

form_inv : (s : State) (us out : List ℕ) → Inv s → every is_word us ≡ true → Inv (after s (form us out))
unfolding after form_out
form_inv s us out i w =
    accepted_inv (form_number us out) _ s i λ n.
    let p : Passed (form_tests us out) = form-passed us out n in
    let r : every in_range (updates us) ≡ true = not-false _ p.1.1.1.0 in
    let l : length (updates us) ≤ limit = omega (arith, count_whole us, ltb-false limit (length us / 4) p.1.0) in
    take_in s (form_out us out) (formed (updates us)) (updates us) i
    (written_holds (form_number us out) (formed (updates us)) out n (clean_formed (updates us) p.1.1.0 (updates-fit us w) l))
    (λ k v t. formed-total k v t (updates us) r l)

unsorted_inv : (s : State) (us out : List ℕ) → Inv s → every is_word us ≡ true → Inv (after s (form_unsorted us out))
unfolding after unsorted_out
unsorted_inv s us out i w =
    accepted_inv (unsorted_number us out) _ s i λ n.
    let p : Passed (unsorted_tests us out) = unsorted_passed us out n in
    let es : List Entry = sort (updates us) in
    let r : every in_range es ≡ true = sort-every in_range (updates us) ∙ not-false _ p.1.1.0 in
    let l : length es ≤ limit = omega (arith, sort-length (updates us), count_whole us, ltb-false limit (length us / 4) p.1.0) in
    take_in s (unsorted_out us out) (formed es) (updates us) i
    (written_holds (unsorted_number us out) (formed es) out n (clean_formed es (sort_unfallen (updates us)) (sort-every fits (updates us) ∙ updates-fit us w) l))
    (λ k v t. formed-total k v t es r l ∙ sort-total k v t (updates us))

split_inv : (s : State) (i n : ℕ) (one two : List ℕ) → Inv s → Inv (after s (split i n one two))
unfolding after split_first split_rest
split_inv s i n one two c =
    when_inv (holds s i) _ s c λ h.
    accepted_inv (split_number (at s i) one two) _ s c λ z.
    let es : List Entry = entries (at s i) in
    let good : Clean es = clean_of (at s i) (sound-at s i c h) in
    let a : Holds (take n es) (split_first (at s i) n one two) = written_holds (split_number (at s i) one two) (take n es) one z (clean_take n es good) in
    let b : Holds (drop n es) (split_rest (at s i) n one two) = written_holds (split_number (at s i) one two) (drop n es) two z (clean_drop n es good) in
    exchange_one s i (split_first (at s i) n one two ∷ split_rest (at s i) n one two ∷ []) c h (every_pair _ _ _ _ a b)
    (λ k v t. held_pair k v t _ _ _ _ a b ∙ total_cut k v t n es)

extract_inv : (s : State) (i count : ℕ) (corners kept shipped : List ℕ) → Inv s → Inv (after s (extract i count corners kept shipped))
unfolding after kept_out shipped_out kept_of shipped_of
extract_inv s i count corners kept shipped c =
    when_inv (holds s i) _ s c λ h.
    accepted_inv (extract_number count corners (at s i) kept shipped) _ s c λ z.
    let es : List Entry = entries (at s i) in
    let open_at : Entry → Bool = λ (e : Entry). is_open (take count corners) e.time in
    let good : Clean es = clean_of (at s i) (sound-at s i c h) in
    let a : Holds (keep open_at es) (kept_out count corners (at s i) kept shipped) =
    written_holds (extract_number count corners (at s i) kept shipped) (keep open_at es) kept z (clean_keep open_at es good) in
    let b : Holds (keep (λ (e : Entry). not (open_at e)) es) (shipped_out count corners (at s i) kept shipped) =
    written_holds (extract_number count corners (at s i) kept shipped) (keep (λ (e : Entry). not (open_at e)) es) shipped z (clean_keep (λ (e : Entry). not (open_at e)) es good) in
    exchange_one s i (kept_out count corners (at s i) kept shipped ∷ shipped_out count corners (at s i) kept shipped ∷ []) c h (every_pair _ _ _ _ a b)
    (λ k v t. held_pair k v t _ _ _ _ a b ∙ total-keep k v t open_at es)

meld_inv : (s : State) (i j : ℕ) (out : List ℕ) → Inv s → Inv (after s (meld i j out))
unfolding after meld_out
meld_inv s i j out c =
    when_inv (holds_two s i j) _ s c λ h.
    accepted_inv (meld_number (at s i) (at s j) out) _ s c λ z.
    let p : Passed (meld_tests (at s i) (at s j) out) = meld-passed (at s i) (at s j) out z in
    let si : sound (at s i) ≡ true = sound-at s i c (and_left (holds s i) (holds s j && not (eqb i j)) h) in
    let sj : sound (at s j) ≡ true = sound-at s j c (and_left (holds s j) (not (eqb i j)) (and_right (holds s i) _ h)) in
    let es : List Entry = entries (at s i) in
    let fs : List Entry = entries (at s j) in
    let few : length es + length fs ≤ limit = simp (counted_of (at s i) si, counted_of (at s j) sj) (ltb-false limit (nt (at s i) + nt (at s j)) p.1.1.1.1.0) in
    let a : Holds (es ++ fs) (meld_out (at s i) (at s j) out) =
    written_holds (meld_number (at s i) (at s j) out) (es ++ fs) out z
    (clean_append es fs (clean_of (at s i) si) (clean_of (at s j) sj) (not-false _ p.1.1.1.1.1.0) few) in
    exchange_two s i j (meld_out (at s i) (at s j) out ∷ []) c h (every_one _ _ a)
    (λ k v t. held_one k v t _ _ a ∙ total-append k v t es fs)

-- a suffix, where it is accepted
suffix-holds : (p : Place) (w rest : List ℕ) → sound w ≡ true → suffix_number p w rest ≡ 0 → Holds (drop p.t (entries w)) (suffix_out p w rest)
unfolding suffix_out
suffix-holds p w rest h z = written_holds (suffix_number p w rest) (drop p.t (entries w)) rest z (clean_drop p.t (entries w) (clean_of w h))

-- the survivor's suffix, where it is accepted
rest-sounds : (who : Survives) (a b rest : List ℕ) → sound a ≡ true → sound b ≡ true → rest_number who a b rest ≡ 0
    → every sound (rest_held who (rest_out who a b rest)) ≡ true
unfolding rest_number rest_out suffix_out every
rest-sounds nobody a b rest ha hb z = refl
rest-sounds (the_first p) a b rest ha hb z = every_one _ _ (suffix-holds p a rest ha z)
rest-sounds (the_second p) a b rest ha hb z = every_one _ _ (suffix-holds p b rest hb z)

rest-says : (k v t : ℕ) (who : Survives) (a b rest : List ℕ) → sound a ≡ true → sound b ≡ true → rest_number who a b rest ≡ 0
    → held_total k v t (rest_held who (rest_out who a b rest)) ≡ total k v t (left_of (entries a) (entries b) who)
unfolding rest_number rest_out suffix_out held_total
rest-says k v t nobody a b rest ha hb z = refl
rest-says k v t (the_first p) a b rest ha hb z = held_one k v t _ _ (suffix-holds p a rest ha z)
rest-says k v t (the_second p) a b rest ha hb z = held_one k v t _ _ (suffix-holds p b rest hb z)

-- a merge filtered
clean_merged : (a b : List ℕ) → sound a ≡ true → sound b ≡ true → nt a + nt b ≤ limit → Clean (keep stands (merged (entries a) (entries b)))
clean_merged a b ha hb few =
    let ca : Clean (entries a) = clean_of a ha in
    let cb : Clean (entries b) = clean_of b hb in
    let m : List Entry = merged (entries a) (entries b) in
    record {
      rise = keep-rising stands m (merged_rises (entries a) (entries b) ca.rise cb.rise);
      stand = keep_passes stands m;
      fit = keep-every stands fits m (merged-fits (entries a) (entries b) ca.fit cb.fit);
      small = omega (arith, length-keep stands m, merged_short (entries a) (entries b), counted_of a ha, counted_of b hb);
    }

-- a slice filtered holds what stands of its entries
filter-holds : (w out : List ℕ) (es : List Entry) → filter_number w out ≡ 0 → entries w ≡ es → Clean (keep stands es) → Holds (keep stands es) (filter_out w out)
unfolding filter_out
filter-holds w out es z r c = rw r (written_holds (filter_number w out) (keep stands es) out z c)

merge_inv : (s : State) (i j : ℕ) (scratch out clean rest : List ℕ) → Inv s → Inv (after s (merge i j scratch out clean rest))
unfolding after merged_state
merge_inv s i j scratch out clean rest c =
    let a : List ℕ = at s i in
    let b : List ℕ = at s j in
    let es : List Entry = entries a in
    let fs : List Entry = entries b in
    let who : Survives = survives a b in
    let one : List ℕ = clean_out a b scratch out clean in
    let left : List (List ℕ) = rest_held who (left_out a b scratch out clean rest) in
    when_inv (holds_two s i j) _ s c λ h.
    accepted_inv (whole_number a b scratch out clean rest) _ s c λ z.
    let q : Accepted a b scratch out clean rest = whole_accepted a b scratch out clean rest z in
    let ha : sound a ≡ true = sound-at s i c (and_left (holds s i) (holds s j && not (eqb i j)) h) in
    let hb : sound b ≡ true = sound-at s j c (and_left (holds s j) (not (eqb i j)) (and_right (holds s i) _ h)) in
    let says : Holds (keep stands (merged es fs)) one =
    rw q.cleaned (filter-holds (merge_out a b scratch out) clean (merged es fs) q.filter (merge_says a b scratch out q.merge).read (clean_merged a b ha hb (merge_few a b scratch out q.merge))) in
    let sounds : every sound left ≡ true = rw q.left (rest-sounds who a b rest ha hb q.suffix) in
    let leaves : (k v t : ℕ) → held_total k v t left ≡ total k v t (left_of es fs who) = λ k v t. rw q.left (rest-says k v t who a b rest ha hb q.suffix) in
    exchange_two s i j (one ∷ left) c h
    (every_append sound (one ∷ []) left (every_one _ _ says) sounds)
    (λ k v t. held_append k v t (one ∷ []) left
    ∙ ap₂ ◌+ℤ◌ (held_one k v t _ _ says ∙ total_filtered k v t (merged es fs)) (leaves k v t)
    ∙ totals_kept es fs (clean_of a ha).rise (clean_of b hb).rise (merge_passed a b scratch out q.merge).1.1.1.1.1.1.1.1.1.0 k v t)

-- ---- any calls

after_inv : (s : State) (c : Call) → Inv s → call_fits c ≡ true → Inv (after s c)
after_inv s (form us out) i f = form_inv s us out i f
after_inv s (form_unsorted us out) i f = unsorted_inv s us out i f
after_inv s (split n m one two) i f = split_inv s n m one two i
after_inv s (extract n count corners kept shipped) i f = extract_inv s n count corners kept shipped i
after_inv s (meld n m out) i f = meld_inv s n m out i
after_inv s (merge n m scratch out clean rest) i f = merge_inv s n m scratch out clean rest i

pub run_inv : (s : State) (cs : List Call) → Inv s → every call_fits cs ≡ true → Inv (run s cs)
unfolding run every
run_inv s [] i f = i
run_inv s (c ∷ cs) i f = run_inv (after s c) cs (after_inv s c i (and_left _ _ f)) (and_right (call_fits c) _ f)

pub start_inv : Inv start
unfolding every held_total total
start_inv = record { sounds = refl; sum = λ k v t. refl }
