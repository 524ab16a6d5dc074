-- How two chunks meet, by the last item of each layer of the first and the first item of each layer of the second.
use Rattle.std.proofs.Common.{◌≡◌, ℕ, suc, ◌-◌, ◌≤◌, Bool, true, false, cond, ap, eqb, List, [], ◌∷◌, map, length, get_or, sym, refl, ◌∙◌, arith, eqb-true}
use Rattle.std.specs.Prelude.{Some, None}
use Rattle.laws.proofs.Tests.{by_test, and_right}
use Rattle.chunk.specs.Entry.{Entry, before, same_list}
use Rattle.chunk.specs.Bodies.{lasts_of, same_key}
use Rattle.chunk.specs.Words.{head_or_0}
use Rattle.meld.specs.declared.Seam.{Seam}
use Rattle.meld.specs.Meld.{follows, last_before}
use Rattle.meld.specs.Seam.{shared, shared_with, last_or_0, last_position, first_position, as_entry, seam_at, seam_of, where_past}
use Rattle.meld.proofs.Append.{lasts_some}

-- the last word by its place
pub last_at : (l : List ℕ) → get_or l (length l - 1) 0 ≡ last_or_0 l
unfolding last_or_0
last_at [] = refl
last_at (a ∷ []) = refl
last_at (a ∷ b ∷ l) =
    let q : suc (suc (length l)) - 1 ≡ suc (suc (length l) - 1) = omega arith in
    rw q (last_at (b ∷ l))

-- the first word by its place
pub first_at : (l : List ℕ) → get_or l 0 0 ≡ head_or_0 l
unfolding head_or_0
first_at [] = refl
first_at (a ∷ l) = refl

-- the last entry
unfoldable pub last_of : Entry → List Entry → Entry
last_of e [] = e
last_of e (c ∷ es) = last_of c es

last_of_lem : (g : Entry → ℕ) (e : Entry) (es : List Entry) → last_or_0 (map g (e ∷ es)) ≡ g (last_of e es)
unfolding last_or_0 last_of
last_of_lem g e [] = refl
last_of_lem g e (c ∷ es) = last_of_lem g c es

last_skip : (g : Entry → ℕ) (e : Entry) (es : List Entry) → 1 ≤ length es → last_or_0 (map g (e ∷ es)) ≡ last_or_0 (map g es)
unfolding last_or_0
last_skip g e [] h = absurd (omega arith)
last_skip g e (c ∷ es) h = refl

-- the last one's list has it for its last
last_lasts : (g : Entry → ℕ) (same : Entry → Entry → Bool) (e : Entry) (es : List Entry) → last_or_0 (map g (lasts_of same (e ∷ es))) ≡ g (last_of e es)
unfolding lasts_of last_or_0 last_of
last_lasts g same e [] = refl
last_lasts g same e (c ∷ es) =
    by_test (same e c)
    (λ h. rw h (last_lasts g same c es))
    (λ h. rw h (last_skip g e (lasts_of same (c ∷ es)) (lasts_some same c es) ∙ last_lasts g same c es))

-- the first one's list says what it says
first_lasts : (g : Entry → ℕ) (same : Entry → Entry → Bool) → ((a b : Entry) → same a b ≡ true → g a ≡ g b) → (f : Entry) (fs : List Entry) → head_or_0 (map g (lasts_of same (f ∷ fs))) ≡ g f
unfolding lasts_of head_or_0
first_lasts g same k f [] = refl
first_lasts g same k f (b ∷ fs) = by_test (same f b) (λ h. rw h (first_lasts g same k b fs ∙ sym (k f b h))) (λ h. rw h)

-- the two positions, by the entries
last_position_lem : (e : Entry) (es : List Entry) → last_position (e ∷ es) ≡ record { key = (last_of e es).key; val = (last_of e es).val; time = (last_of e es).time }
unfolding last_position
last_position_lem e es =
    rw (last_lasts (λ (x : Entry). x.key) same_key e es, last_lasts (λ (x : Entry). x.val) same_list e es, last_of_lem (λ (x : Entry). x.time) e es)

first_position_lem : (f : Entry) (fs : List Entry) → first_position (f ∷ fs) ≡ record { key = f.key; val = f.val; time = f.time }
unfolding first_position head_or_0
first_position_lem f fs =
    rw (
      first_lasts (λ (x : Entry). x.key) same_key (λ a b h. eqb-true _ _ h) f fs,
      first_lasts (λ (x : Entry). x.val) same_list (λ a b h. eqb-true _ _ (and_right (eqb a.key b.key) _ h)) f fs,
    )

-- the second's first entry is past the first's last
pub follows_at : (e : Entry) (es : List Entry) (f : Entry) (fs : List Entry) → follows (e ∷ es) (f ∷ fs) ≡ before (last_of e es) f
unfolding follows last_before last_of
follows_at e [] f fs = refl
follows_at e (c ∷ es) f fs = follows_at c es f fs

shared_last : (same : Entry → Entry → Bool) (e : Entry) (es : List Entry) (f : Entry) (fs : List Entry) → shared same (e ∷ es) (f ∷ fs) ≡ cond (same (last_of e es) f) 1 0
unfolding shared shared_with last_of
shared_last same e [] f fs = refl
shared_last same e (c ∷ es) f fs = shared_last same c es f fs

-- two parts with entries meet as those two positions do
pub seam_some : (es fs : List Entry) → (length es ≡ 0 → ⊥) → (length fs ≡ 0 → ⊥) → seam_at (as_entry (last_position es)) (as_entry (first_position fs)) ≡ seam_of es fs
unfolding seam_of
seam_some [] fs h k = absurd (h refl)
seam_some (e ∷ es) [] h k = absurd (k refl)
seam_some (e ∷ es) (f ∷ fs) h k =
    rw (last_position_lem e es, first_position_lem f fs, follows_at e es f fs, shared_last same_key e es f fs, shared_last same_list e es f fs)

-- with none in the first there is nothing to compare
pub seam_first_none : (es fs : List Entry) → length es ≡ 0 → Some (record { keys = 0; vals = 0 }) ≡ seam_of es fs
unfolding seam_of follows shared
seam_first_none [] fs h = refl
seam_first_none (e ∷ es) fs h = absurd (omega arith)

follows-none : (es : List Entry) → true ≡ follows es []
unfolding follows last_before
follows-none [] = refl
follows-none (e ∷ []) = refl
follows-none (e ∷ c ∷ es) = follows-none (c ∷ es)

pub shared-none : (same : Entry → Entry → Bool) (es : List Entry) → 0 ≡ shared same es []
unfolding shared shared_with
shared-none same [] = refl
shared-none same (e ∷ []) = refl
shared-none same (e ∷ c ∷ es) = shared-none same (c ∷ es)

pub seam_second_none : (es fs : List Entry) → length fs ≡ 0 → Some (record { keys = 0; vals = 0 }) ≡ seam_of es fs
unfolding seam_of
seam_second_none es [] h = rw (← follows-none es, ← shared-none same_key es, ← shared-none same_list es)
seam_second_none es (f ∷ fs) h = absurd (omega arith)

-- what it says that there is a seam, or none
pub record Met (seam : Seam) (es fs : List Entry) : Type 0 where
  pub past : follows es fs ≡ true
  pub keys_shared : seam.keys ≡ shared same_key es fs
  pub vals_shared : seam.vals ≡ shared same_list es fs

past_by : (b : Bool) (s t : Seam) → where_past b s ≡ Some t → (b ≡ true) × (t ≡ s)
past_by true s t h = (refl, cc)
past_by false s t h = cc

pub met_by : (es fs : List Entry) (seam : Seam) → seam_of es fs ≡ Some seam → Met seam es fs
unfolding seam_of
met_by es fs seam h =
    let p = past_by (follows es fs) _ seam h in
    record { past = p.0; keys_shared = ap (λ (s : Seam). s.keys) p.1; vals_shared = ap (λ (s : Seam). s.vals) p.1 }

behind_by : (b : Bool) (s : Seam) → where_past b s ≡ None → b ≡ false
behind_by true s h = cc
behind_by false s h = refl

pub unmet_by : (es fs : List Entry) → seam_of es fs ≡ None → follows es fs ≡ false
unfolding seam_of
unmet_by es fs h = behind_by (follows es fs) _ h
