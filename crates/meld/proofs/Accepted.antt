-- The theorems of `specs/Accepted.antt`: what the output of an accepted meld says, and that an empty chunk gives the other.
use Rattle.std.proofs.Common.{◌≡◌, ℕ, ◌+◌, ◌-◌, ◌<◌, ◌≤◌, Bool, true, false, not, eqb, ltb, List, [], ◌∷◌, ◌++◌, length, drop, sym, refl, ap, ◌∙◌, append-nil, arith, length-append, ltb-false, le-ltb}
use borrow.Author.Tests.{eqb-false, not-false}
use Rattle.laws.proofs.Tests.{by_test, and_left, and_right, and_both}
use Rattle.chunk.specs.Entry.{Entry, before, rising, rising_from, stands, every}
use Rattle.chunk.specs.Bodies.{chunk_of}
use Rattle.chunk.specs.Words.{well_formed, settled, entries, size, table_size, nt, limit, over}
use Rattle.chunk.specs.Refusal.{Test, first, refuse, malformed, unsettled, written}
use Rattle.laws.proofs.Lists.{every_append}
use Rattle.laws.proofs.Order.{before_irrefl, before_asym, rising_all}
use Rattle.laws.proofs.OneChunk.{chunk_says, front_is_chunk, settled_stands}
use Rattle.meld.specs.Meld.{follows, last_before, meld_number, meld_out, pair_tests}
use Rattle.meld.specs.Accepted.{MeldSays, FirstEmpty, SecondEmpty, BehindItself}
use Rattle.meld.proofs.Meeting.{last_of, follows_at}

-- entries past others go on rising
pub rising-follows : (es fs : List Entry) → rising es ≡ true → rising fs ≡ true → follows es fs ≡ true → rising (es ++ fs) ≡ true
unfolding rising rising_from follows last_before
rising-follows [] fs h k l = k
rising-follows (a ∷ []) [] h k l = refl
rising-follows (a ∷ []) (f ∷ fs) h k l = and_both (before a f) _ l k
rising-follows (a ∷ c ∷ es) fs h k l =
    and_both (before a c) _ (and_left (before a c) _ h) (rising-follows (c ∷ es) fs (and_right (before a c) _ h) k l)

-- where no number is given, the first test passes and so do the others
passed : (t : Test) (ts : List Test) → eqb t.number 0 ≡ false → first (t ∷ ts) ≡ 0 → (t.fails ≡ false) × (first ts ≡ 0)
unfolding first
passed t ts n h = by_test t.fails (λ k. absurd (eqb-false t.number 0 n (rw k at h))) (λ k. (k, rw k at h))

-- what an accepted meld has
record Took (a b out : List ℕ) : Type 0 where
  first_formed : well_formed a ≡ true
  first_settled : settled a ≡ true
  second_formed : well_formed b ≡ true
  second_settled : settled b ≡ true
  few : nt a + nt b ≤ limit
  past : follows (entries a) (entries b) ≡ true

took : (a b out : List ℕ) → meld_number a b out ≡ 0 → Took a b out
unfolding meld_number
took a b out h =
    let l2 = pair_tests a b out in
    let l1 = malformed b ∷ unsettled b ∷ l2 in
    let t1 = passed (malformed a) (unsettled a ∷ l1) refl h in
    let t2 = passed (unsettled a) l1 refl t1.1 in
    let t3 = passed (malformed b) (unsettled b ∷ l2) refl t2.1 in
    let t4 = passed (unsettled b) l2 refl t3.1 in
    let behind = refuse 11 (not (follows (entries a) (entries b))) in
    let l3 = refuse 13 (ltb (length out) (size a + size b - table_size)) ∷ [] in
    let t5 = passed (refuse 2 (ltb limit (nt a + nt b))) (behind ∷ l3) refl t4.1 in
    let t6 = passed behind l3 refl t5.1 in
    record {
      first_formed = not-false _ t1.0;
      first_settled = not-false _ t2.0;
      second_formed = not-false _ t3.0;
      second_settled = not-false _ t4.0;
      few = ltb-false _ _ t5.0;
      past = not-false _ t6.0;
    }

-- and what it writes
wrote : (a b out : List ℕ) → meld_number a b out ≡ 0 → meld_out a b out ≡ over (chunk_of (entries a ++ entries b)) out
unfolding meld_out written
wrote a b out h = rw h

pub meld_says : MeldSays
meld_says a b out h =
    let t = took a b out h in
    let f = front_is_chunk a t.first_formed in
    let g = front_is_chunk b t.second_formed in
    let es = entries a ++ entries b in
    let s = chunk_says es (drop (length (chunk_of es)) out) (rising-follows (entries a) (entries b) f.rise g.rise t.past) (omega (arith, length-append (entries a) (entries b))) in
    let stand = every_append stands (entries a) (entries b) ∙ and_both _ _ (sym (settled_stands a t.first_formed) ∙ t.first_settled) (sym (settled_stands b t.second_formed) ∙ t.second_settled) in
    record {
      says = rw (wrote a b out h) s;
      settles = rw (wrote a b out h) (settled_stands _ s.formed ∙ ap (every stands) s.read ∙ stand);
    }

no_entries : (w : List ℕ) → well_formed w ≡ true → nt w ≡ 0 → entries w ≡ []
no_entries w h k = go (entries w) ((front_is_chunk w h).counted ∙ k)
  where
    go : (es : List Entry) → length es ≡ 0 → es ≡ []
    go [] e = refl
    go (a ∷ es) e = absurd (omega arith)

pub first_empty : FirstEmpty
first_empty a b out h k =
    let t = took a b out h in
    wrote a b out h ∙ rw (no_entries a t.first_formed k, (front_is_chunk b t.second_formed).front)

pub second_empty : SecondEmpty
second_empty a b out h k =
    let t = took a b out h in
    wrote a b out h ∙ rw (no_entries b t.second_formed k, append-nil (entries a), (front_is_chunk a t.first_formed).front)

every_last : (p : Entry → Bool) (e : Entry) (es : List Entry) → every p (e ∷ es) ≡ true → p (last_of e es) ≡ true
unfolding every last_of
every_last p e [] h = and_left (p e) _ h
every_last p e (c ∷ es) h = every_last p c es (and_right (p e) _ h)

-- the last is not before the first
last_first : (e : Entry) (es : List Entry) → rising (e ∷ es) ≡ true → before (last_of e es) e ≡ false
unfolding rising last_of
last_first e [] h = before_irrefl e
last_first e (c ∷ es) h = before_asym e (last_of c es) (every_last (before e) c es (rising_all e (c ∷ es) h))

not_behind : (es : List Entry) → rising es ≡ true → 0 < length es → follows es es ≡ false
not_behind [] h k = absurd (omega arith)
not_behind (e ∷ es) h k = follows_at e es e es ∙ last_first e es h

pub behind_itself : BehindItself
unfolding meld_number first
behind_itself a out h k l n =
    let f = front_is_chunk a h in
    rw (h, k, le-ltb limit (nt a + nt a) n, not_behind (entries a) f.rise (omega (arith, f.counted)))
