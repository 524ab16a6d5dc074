-- The two orders of times (document 01): sorting uses the number, so ignition first; a frontier asks for both coordinates.
use Rattle.std.specs.Prelude.{ℕ, Bool, ◌&&◌, ◌||◌, leb, ltb, eqb}
use Rattle.chunk.specs.Entry.{ignition, tick}

-- the sort order: an earlier ignition, or the same one and an earlier tick
abbrev pub earlier : ℕ → ℕ → Bool
earlier s t = ltb (ignition s) (ignition t) || (eqb (ignition s) (ignition t) && ltb (tick s) (tick t))

-- at or below in ignition and in tick
abbrev pub at_or_below : ℕ → ℕ → Bool
at_or_below s t = leb (ignition s) (ignition t) && leb (tick s) (tick t)
