-- The theorems on one chunk, each under the words of its statement in `specs/OneChunk.antt`.
use Prim.Native.Nat.{ℕ, suc, ◌≤◌}
use mathlib.Core.Path.{◌≡◌, refl, sym, ap, ◌∙◌}
use mathlib.Core.Bool.{Bool, true}
use mathlib.Core.List.{List, [], ◌∷◌, ◌++◌, append-nil}
use native.Mathlib.Omega.{arith}
use lib.Dec.{eqb, eqb-suc-suc}
use lib.ListN.{length, take, length-map}
use lib.Seq.{take-length}
use borrow.Author.Tests.{leb-true, ne_eqb}
use Rattle.chunk.specs.Entry.{Entry, rising, stands, every, keep}
use Rattle.chunk.specs.Bodies.{chunk_of, times}
use Rattle.chunk.specs.Words.{well_formed, entries, nt, nd, limit, table_fits}
use Rattle.laws.specs.OneChunk.{Says, ChunkSays, FrontIsChunk, SettledStands, ChunksDiffer, OneForEach}
use Rattle.laws.proofs.Tests.{by_test}
use Rattle.laws.proofs.Tries.{flat, ok, flat-rising}
use Rattle.laws.proofs.Layers.{Seven, of_entries, of_trie, trie_bodies}
use Rattle.laws.proofs.Shape.{Formed, trie_of, trie_formed, trie_again, bodies_again, formed_ok}
use Rattle.laws.proofs.Grown.{grown}
pub use Rattle.laws.proofs.Totals.{settled_once}
use Rattle.laws.proofs.Frame.{parts, words_of, in_words, sized, read_again, formed_words, length_times, length_diffs, front_words, words_formed}

-- the entries are those of the tree of the bodies
pub entries-flat : (w : List ℕ) → entries w ≡ flat (trie_of (in_words w))
unfolding entries
entries-flat w = refl

-- the chunk is the words of the entries' bodies
pub chunk_words : (es : List Entry) → chunk_of es ≡ words_of (of_entries es)
unfolding chunk_of
chunk_words es = refl

module _ (es : List Entry) (h : rising es ≡ true) where
  its_bodies : of_entries es ≡ of_trie (grown es h).tree
  its_bodies = ap of_entries (sym (grown es h).reads) ∙ trie_bodies (grown es h).tree (grown es h).fine

  its_form : Formed (of_entries es)
  its_form = rw its_bodies (trie_formed (grown es h).tree (grown es h).fine)

  its_tree : flat (trie_of (of_entries es)) ≡ es
  its_tree = ap (λ (s : Seven). flat (trie_of s)) its_bodies ∙ ap flat (trie_again (grown es h).tree) ∙ (grown es h).reads

pub chunk_says : ChunkSays
chunk_says es rest h l =
    let s : Seven = of_entries es in
    let f : Formed s = its_form es h in
    let m : length (times es) ≡ length es = length-map es (λ (e : Entry). e.time) in
    rw (chunk_words es)
    (record {
      formed = formed_words s f rest (omega arith);
      sized = sized s f rest ∙ sym (ap length (chunk_words es));
      read =
          entries-flat (words_of s ++ rest)
          ∙ ap (λ (b : Seven). flat (trie_of b)) (read_again s f rest)
          ∙ its_tree es h;
    })

module _ (w : List ℕ) (h : well_formed w ≡ true) where
  its_ok : ok (trie_of (in_words w)) ≡ true
  its_ok = formed_ok (in_words w) (words_formed w h)

  its_table : table_fits w ≡ true
  its_table = (parts w h).table_fits

  -- the bodies of the entries are those of the words
  pub bodies_in : of_entries (entries w) ≡ in_words w
  bodies_in =
      ap of_entries (entries-flat w) ∙ trie_bodies (trie_of (in_words w)) its_ok ∙ bodies_again (in_words w) (words_formed w h)

  counts_times : length (entries w) ≡ nt w
  counts_times =
      sym (length-map (entries w) (λ (e : Entry). e.time)) ∙ ap (λ (s : Seven). length s.time_list) bodies_in ∙ length_times w its_table

pub front_is_chunk : FrontIsChunk
front_is_chunk w h =
    let c : length (entries w) ≡ nt w = counts_times w h in
    let l : nt w ≤ limit = leb-true _ _ (parts w h).few in
    record {
      front = front_words w (its_table w h) ∙ sym (chunk_words (entries w) ∙ ap words_of (bodies_in w h));
      rise = ap rising (entries-flat w) ∙ flat-rising (trie_of (in_words w)) (its_ok w h);
      counted = c;
      bounded = omega arith;
    }

-- ---- settled

-- no more are kept than there are
pub keep_fewer : (p : Entry → Bool) (es : List Entry) → length (keep p es) ≤ length es
unfolding keep
keep_fewer p [] = omega arith
keep_fewer p (e ∷ es) =
    let l : length (keep p es) ≤ length es = keep_fewer p es in
    by_test (p e) (λ h. rw h (omega arith)) (λ h. rw h (omega arith))

-- all are kept exactly where all pass
pub keep_all : (p : Entry → Bool) (es : List Entry) → eqb (length (keep p es)) (length es) ≡ every p es
unfolding keep every
keep_all p [] = refl
keep_all p (e ∷ es) =
    let l : length (keep p es) ≤ length es = keep_fewer p es in
    by_test (p e)
    (λ h. rw h (eqb-suc-suc (length (keep p es)) (length es) ∙ keep_all p es))
    (λ h. rw h (ne_eqb (length (keep p es)) (suc (length es)) (omega arith)))

pub settled_stands : SettledStands
settled_stands w h =
    let n : nd w ≡ length (keep stands (entries w)) =
    sym (length_diffs w (its_table w h)) ∙ sym (ap (λ (s : Seven). length s.diff_list) (bodies_in w h))
    ∙ length-map (keep stands (entries w)) (λ (e : Entry). e.diff) in
    (λ i. eqb (n i) (sym (counts_times w h) i)) ∙ keep_all stands (entries w)

-- ---- one chunk for each list

-- the chunk with nothing after it
pub chunk_alone : (es : List Entry) → rising es ≡ true → length es ≤ limit → Says es (chunk_of es)
chunk_alone es h l = rw append-nil at (chunk_says es [] h l)

pub chunks_differ : ChunksDiffer
chunks_differ es fs h k l m e = sym (chunk_alone es h l).read ∙ ap entries e ∙ (chunk_alone fs k m).read

pub one_for_each : OneForEach
one_for_each es h z l =
    let s : Says es (chunk_of es) = chunk_alone es h l in
    record {
      one =
          record {
            formed = s.formed;
            settles = settled_stands (chunk_of es) s.formed ∙ ap (every stands) s.read ∙ z;
            whole = s.sized;
            read = s.read;
          };
      only =
          λ w c. sym (take-length w) ∙ ap (λ (n : ℕ). take n w) (sym c.whole)
          ∙ (front_is_chunk w c.formed).front ∙ ap chunk_of c.read;
    }
