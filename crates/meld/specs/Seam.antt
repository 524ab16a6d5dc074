-- Where two chunks meet (document 01, "Meld": b's first position strictly past a's last): the key, or the key and the value, may be the same.
use Rattle.std.specs.Prelude.{ℕ, ◌-◌, Bool, true, false, cond, Option, Some, None, List, [], ◌∷◌, length, take}
use Rattle.chunk.specs.Entry.{Entry, before, same_list}
use Rattle.chunk.specs.Bodies.{same_key, keys, vals, times}
use Rattle.chunk.specs.Words.{head_or_0}
use Rattle.meld.specs.declared.Position.{Position}
use Rattle.meld.specs.declared.Seam.{Seam}
use Rattle.meld.specs.Meld.{follows}

-- 1 where the first of these entries goes on with the list of `a`, else 0
unfoldable pub shared_with : (Entry → Entry → Bool) → Entry → List Entry → ℕ
shared_with same a [] = 0
shared_with same a (f ∷ fs) = cond (same a f) 1 0

-- the lists that two parts share, 1 or 0: whether the first part's last list goes on in the second
unfoldable pub shared : (Entry → Entry → Bool) → List Entry → List Entry → ℕ
unfolding shared_with
shared same [] fs = 0
shared same (a ∷ []) fs = shared_with same a fs
shared same (a ∷ c ∷ es) fs = shared same (c ∷ es) fs

-- without its last `n`
abbrev pub cut {ℓ} : {A : Type ℓ} → ℕ → List A → List A
cut n l = take (length l - n) l

-- the last of some words, 0 where there is none
unfoldable pub last_or_0 : List ℕ → ℕ
last_or_0 [] = 0
last_or_0 (a ∷ []) = a
last_or_0 (a ∷ b ∷ l) = last_or_0 (b ∷ l)

-- the last position, by the bodies
unfoldable pub last_position : List Entry → Position
unfolding last_or_0
last_position es = record { key = last_or_0 (keys es); val = last_or_0 (vals es); time = last_or_0 (times es) }

-- the first position, by the bodies
unfoldable pub first_position : List Entry → Position
unfolding head_or_0
first_position es = record { key = head_or_0 (keys es); val = head_or_0 (vals es); time = head_or_0 (times es) }

-- a position as an entry
abbrev pub as_entry : Position → Entry
as_entry p = record { key = p.key; val = p.val; time = p.time; diff = 0 }

-- a seam where the second starts past the first's end, else none
abbrev pub where_past : Bool → Seam → Option Seam
where_past true s = Some s
where_past false s = None

-- how two entries meet: the keys and values that they share, where the second is past the first
abbrev pub seam_at : Entry → Entry → Option Seam
seam_at e f = where_past (before e f) (record { keys = cond (same_key e f) 1 0; vals = cond (same_list e f) 1 0 })

-- how two parts meet
unfoldable pub seam_of : List Entry → List Entry → Option Seam
unfolding follows shared
seam_of es fs = where_past (follows es fs) (record { keys = shared same_key es fs; vals = shared same_list es fs })
