-- The orders of keys and of values, each as a test on two entries; `before` is the order of times.
use Rattle.std.specs.Prelude.{Bool, ◌&&◌, ◌||◌, ltb, eqb}
use Rattle.chunk.specs.Entry.{Entry}

-- a lesser key
abbrev pub key_less : Entry → Entry → Bool
key_less a b = ltb a.key b.key

-- a lesser key, or the same one and a lesser value
abbrev pub val_less : Entry → Entry → Bool
val_less a b = ltb a.key b.key || (eqb a.key b.key && ltb a.val b.val)
