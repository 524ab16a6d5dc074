-- Lists of entries that one settled chunk says, and the slices that a call leaves for them.
use Prim.Native.Nat.{ℕ, zero, suc, ◌≤◌, ◌+◌}
use mathlib.Core.Path.{◌≡◌, sym, ◌∙◌}
use mathlib.Core.Bool.{Bool, true, ◌&&◌}
use mathlib.Core.List.{List, ◌++◌}
use native.Mathlib.Omega.{arith}
use lib.ListN.{length, take, drop, length-append, length-take, length-drop}
use Rattle.chunk.specs.Entry.{Entry, stands, rising, every, keep}
use Rattle.chunk.specs.Bodies.{chunk_of}
use Rattle.chunk.specs.Words.{well_formed, settled, entries, nt, limit}
use Rattle.chunk.specs.Refusal.{written}
use Rattle.meld.specs.Meld.{follows}
use Rattle.laws.specs.OneChunk.{fits, Says}
use Rattle.laws.proofs.Tests.{and_left, and_right, and_both}
use Rattle.laws.proofs.OneChunk.{chunk_says, front_is_chunk, settled_stands}
use Rattle.laws.proofs.Order.{keep-rising}
use Rattle.retain.proofs.Records.{keep-every}
use Rattle.split.proofs.Records.{take-every, drop-every, take-rising, drop-rising}
use Rattle.ledger.proofs.Lists.{every_append, length-keep, rising-append}

-- positions rise, each with a change, a machine word; no more of them than a chunk may have
pub record Clean (es : List Entry) : Type 0 where
  pub rise : rising es ≡ true
  pub stand : every stands es ≡ true
  pub fit : every fits es ≡ true
  pub small : length es ≤ limit

pub clean_take : (n : ℕ) (es : List Entry) → Clean es → Clean (take n es)
clean_take n es c =
    record {
      rise = take-rising n es c.rise;
      stand = take-every stands n es c.stand;
      fit = take-every fits n es c.fit;
      small = rw length-take (omega (arith, c.small));
    }

pub clean_drop : (n : ℕ) (es : List Entry) → Clean es → Clean (drop n es)
clean_drop n es c =
    record {
      rise = drop-rising n es c.rise;
      stand = drop-every stands n es c.stand;
      fit = drop-every fits n es c.fit;
      small = rw length-drop (omega (arith, c.small));
    }

pub clean_keep : (p : Entry → Bool) (es : List Entry) → Clean es → Clean (keep p es)
clean_keep p es c =
    record {
      rise = keep-rising p es c.rise;
      stand = keep-every p stands es c.stand;
      fit = keep-every p fits es c.fit;
      small = omega (arith, length-keep p es, c.small);
    }

pub clean_append : (a b : List Entry) → Clean a → Clean b → follows a b ≡ true → length a + length b ≤ limit → Clean (a ++ b)
clean_append a b c d f h =
    record {
      rise = rising-append a b c.rise d.rise f;
      stand = every_append stands a b c.stand d.stand;
      fit = every_append fits a b c.fit d.fit;
      small = rw length-append h;
    }

-- ---- slices

-- a slice that may be held: well formed, settled, its changes machine words
abbrev pub sound : List ℕ → Bool
sound w = well_formed w && (settled w && every fits (entries w))

-- a slice that says these entries
pub record Holds (es : List Entry) (w : List ℕ) : Type 0 where
  pub sounds : sound w ≡ true
  pub reads : entries w ≡ es

-- what a held slice says is clean
pub clean_of : (w : List ℕ) → sound w ≡ true → Clean (entries w)
clean_of w h =
    let f : well_formed w ≡ true = and_left _ _ h in
    let g : (settled w && every fits (entries w)) ≡ true = and_right (well_formed w) _ h in
    record {
      rise = (front_is_chunk w f).rise;
      stand = sym (settled_stands w f) ∙ and_left _ _ g;
      fit = and_right (settled w) _ g;
      small = (front_is_chunk w f).bounded;
    }

-- how many
pub counted_of : (w : List ℕ) → sound w ≡ true → length (entries w) ≡ nt w
counted_of w h = (front_is_chunk w (and_left _ _ h)).counted

-- an accepted call leaves a slice that says the entries it is to have
pub written_says : (n : ℕ) (es : List Entry) (out : List ℕ) → n ≡ 0 → rising es ≡ true → length es ≤ limit → Says es (written n es out)
unfolding written
written_says zero es out e r l = chunk_says es (drop (length (chunk_of es)) out) r l
written_says (suc n) es out e r l = absurd (omega arith)

-- and one that may be held where they are clean
pub written_holds : (n : ℕ) (es : List Entry) (out : List ℕ) → n ≡ 0 → Clean es → Holds es (written n es out)
written_holds n es out e c =
    let s : Says es (written n es out) = written_says n es out e c.rise c.small in
    record {
      sounds = and_both _ _ s.formed
          (and_both _ _ (settled_stands (written n es out) s.formed ∙ rw s.read c.stand) (rw s.read c.fit));
      reads = s.read;
    }
