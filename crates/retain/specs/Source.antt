-- What is read and what of it stays (document 01: "Times without a diff go, then values and keys left without children"): the facts of
-- `specs/Layers.antt` and `specs/Onward.antt` for the bodies that the code reads.
use Rattle.std.specs.Prelude.{ℕ, Bool, List}
use Rattle.retain.specs.declared.source.Source.{Source}
use Rattle.retain.specs.declared.Lists.{Lists}
use Rattle.retain.specs.declared.Reached.{Reached}
use Rattle.retain.specs.Keep.{keeps, time_kept}
use Rattle.retain.specs.Layers.{Left, bodies_out, layers_out}
use Rattle.retain.specs.Onward.{Leaving, Woven}

-- whether time i has a diff and stays
abbrev pub time_stays : Source → ℕ → Bool
time_stays s = time_kept (keeps s.keep) s.times.now s.diff_ends.now

-- what is left of each layer
abbrev pub LeftOf : Source → Lists → ℕ → Type 0
LeftOf s l t = Left (time_stays s) s.keys.now s.val_ends.now s.vals.now s.time_ends.now s.times.now l.keys l.vals t

-- the times and their diffs on their way
abbrev pub LeavingOf : Source → ℕ → List ℕ → ℕ → ℕ → Type 0
LeavingOf s n out at i = Leaving (time_stays s) s.times.now s.diff_ends.now s.diffs.now n out at i

-- the values and their times on their way
abbrev pub WovenOf : Source → ℕ → ℕ → List ℕ → Reached → ℕ → Type 0
WovenOf s v t out r i = Woven (time_stays s) s.vals.now s.time_ends.now s.times.now s.diff_ends.now s.diffs.now v t out r.time r.times r.vals i

-- the words of what stays
abbrev pub bodies_of : Source → List ℕ
bodies_of s = bodies_out (time_stays s) s.keys.now s.val_ends.now s.vals.now s.time_ends.now s.times.now s.diff_ends.now s.diffs.now

-- and the table of so many before them
abbrev pub layers_of : Source → Lists → ℕ → List ℕ
layers_of s l t = layers_out (time_stays s) s.keys.now s.val_ends.now s.vals.now s.time_ends.now s.times.now s.diff_ends.now s.diffs.now l.keys l.vals t
