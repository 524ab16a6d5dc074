-- `split::ranges::write_less` meets its contract.
use Prim.Native.Nat.{ℕ, zero, suc, ◌+◌, ◌-◌, ◌<◌, ◌≤◌}
use mathlib.Core.Path.{◌≡◌, refl, sym, ◌∙◌, ap}
use mathlib.Core.List.{List, [], ◌∷◌, ◌++◌, map}
use native.Mathlib.Omega.{arith}
use native.Mathlib.Numerals.{add-one}
use lib.ListN.{length, take, drop, get_or, set, length-map}
use lib.Seq.{take_all, paste, paste-suc, sets, sets-eq}
use Rattle.split.proofs.ranges.write_less.Goals as goal

-- what a loop that writes from a place on holds, one word more and at its end
pasted_step : (d s : List ℕ) (at i : ℕ) {x : List ℕ} {v : ℕ} → at + i < length d → i < length s → x ≡ paste d at s i → v ≡ get_or s i 0 → set x (at + i) v ≡ paste d at s (i + 1)
pasted_step d s at i h k e q = (λ j. set (e j) (at + i) (q j)) ∙ paste-suc d at s i 0 h k ∙ ap (paste d at s) (sym (add-one i))

pasted_end : (d s : List ℕ) (at i : ℕ) → at + length s ≤ length d → i ≤ length s → length s ≤ i → paste d at s i ≡ sets d at s
pasted_end d s at i h k l =
    let e : i ≡ length s = omega arith in
    ap (paste d at s) e ∙ ap (λ (x : List ℕ). take at d ++ x ++ drop (at + length s) d) (take_all (length s) s (omega arith)) ∙ sym (sets-eq s d at h)

-- the ends, each less a number
abbrev less_by : ℕ → List ℕ → List ℕ
less_by less ends = map (λ (e : ℕ). e - less) ends

less-at : (less : ℕ) (ends : List ℕ) (i : ℕ) → get_or (less_by less ends) i 0 ≡ get_or ends i 0 - less
less-at less [] i = omega arith
less-at less (e ∷ ends) zero = refl
less-at less (e ∷ ends) (suc i) = less-at less ends i

pub loop-i-preserved : goal.loop-i-preserved
loop-i-preserved c =
    let l = c.loop-i in
    let e = c.requires.0 in
    let n = length-map c.args.ends.now (λ (x : ℕ). x - c.args.less) in
    pasted_step c.args.out.now (less_by c.args.less c.args.ends.now) c.args.at l.i (omega arith) (omega arith) l.invariant (sym (less-at c.args.less c.args.ends.now l.i))

pub returns : goal.returns
returns c =
    let l = c.loop-i in
    let n = length-map c.args.ends.now (λ (x : ℕ). x - c.args.less) in
    l.invariant ∙ pasted_end c.args.out.now (less_by c.args.less c.args.ends.now) c.args.at l.i (omega (arith, c.requires.0)) (omega arith) (omega arith)
