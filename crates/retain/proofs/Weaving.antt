-- Keys, values and times written in one walk: each in its own part of the output.
use Prim.Native.Nat.{ℕ, ◌+◌, ◌-◌, ◌<◌, ◌≤◌}
use mathlib.Core.Path.{◌≡◌, refl, sym, ◌∙◌, ap}
use mathlib.Core.Bool.{Bool}
use mathlib.Core.List.{List, [], ◌++◌, append-nil}
use native.Mathlib.Omega.{arith}
use lib.Dec.{ltb}
use lib.ListN.{length, get_or, set, take, drop, length-set, length-drop, length-append, take-append-drop, drop_of_length-le}
use borrow.Rule.Slice.PartMut.{put_mid}
use lib.Seq.{sets, take-set-lt, drop-set-lt, take_at, drop_at, length-take-le}
use Rattle.chunk.specs.Contents.{start_of}
use Rattle.laws.specs.Picked.{count_kept, count_up, list_kept, Over}
use Rattle.retain.specs.Layers.{nodes_out, leaves_out, bit, Bodies, Left, bodies_out}
use Rattle.retain.specs.Onward.{Writing, Leaving, Woven}
use Rattle.retain.proofs.Writing.{writing_start, writing_next, writing_past, writing_left, writing_within, writing_end, next_above, silent, length-nodes_out}
use Rattle.retain.proofs.Leaving.{count_from_lem, leaving_start, leaving_more, leaving_end, length-leaves_out}
use Rattle.retain.proofs.Parting.{end_within}
use Rattle.laws.proofs.Stores.{sets_past}

-- ---- parts of an output

-- two stores before an end are stores into what stands before it
pub put_before : (out : List ℕ) (n a b x y : ℕ) → a < n → b < n
    → (take n (set (set out a x) b y) ≡ set (set (take n out) a x) b y) × (drop n (set (set out a x) b y) ≡ drop n out)
put_before out n a b x y ha hb = (
  take-set-lt n (set out a x) b y hb ∙ ap (λ (l : List ℕ). set l b y) (take-set-lt n out a x ha),
  drop-set-lt n (set out a x) b y hb ∙ drop-set-lt n out a x ha,
)

-- what a call leaves in the rest of an output, from one place on
pub put_rest : (out new : List ℕ) (s k : ℕ) → s ≤ length out → length out ≤ s + k → length new ≡ length out - s
    → (take s (put_mid s k out new) ≡ take s out) × ((drop s (put_mid s k out new) ≡ new) × (length (put_mid s k out new) ≡ length out))
put_rest out new s k h g n =
    let ls : length (take s out) ≡ s = length-take-le s out h in
    let z : drop k (drop s out) ≡ [] = drop_of_length-le (drop s out) (let d = length-drop s out in omega arith) in
    let e : put_mid s k out new ≡ take s out ++ new = (λ i. take s out ++ (new ++ z i)) ∙ ap (λ (x : List ℕ). take s out ++ x) (append-nil new) in (
      ap (take s) e ∙ take_at (take s out) new s ls,
      (ap (drop s) e ∙ drop_at (take s out) new s ls, ap length e ∙ length-append (take s out) new ∙ omega arith),
    )

-- ---- values and times

module _ (m : ℕ → Bool) (vals time_ends times diff_ends diffs : List ℕ) (o : Over vals time_ends (length times)) (v t : ℕ) where
  -- the times of the next value
  pub next_times : (out : List ℕ) (start total at i : ℕ) → Woven m vals time_ends times diff_ends diffs v t out start total at i → i < length vals
      → (start < get_or time_ends i 0) × (get_or time_ends i 0 ≤ length times)
  next_times out start total at i w h = ((next_above m vals time_ends o.rows start i h w.values.rise).0, (end_within time_ends (length times) i (start_of time_ends i) o.rises (let r = o.rows in omega arith) refl).1)

  -- so many times are written of the next value as stay
  times_more : (out new : List ℕ) (start total at i done : ℕ) → Woven m vals time_ends times diff_ends diffs v t out start total at i → i < length vals
      → Leaving m times diff_ends diffs t new done (get_or time_ends i 0) → done ≡ total + count_kept m start (get_or time_ends i 0 - start)
  times_more out new start total at i done w h l =
      let b = next_times out start total at i w h in
      leaving_more m times diff_ends diffs t _ new total done start (get_or time_ends i 0) w.leaves l (omega (arith, b.0)) b.1

  -- a value is written once its times are, and counts where one of them stays
  pub woven_next : (out new : List ℕ) (start total at i done : ℕ) → Woven m vals time_ends times diff_ends diffs v t out start total at i → i < length vals
      → length new ≡ length out → take (v + v) new ≡ take (v + v) out → Leaving m times diff_ends diffs t (drop (v + v) new) done (get_or time_ends i 0) → at < v
      → Woven m vals time_ends times diff_ends diffs v t (set (set new at (get_or vals i 0)) (v + at) done) (get_or time_ends i 0) done (at + bit (ltb total done)) (i + 1)
  woven_next out new start total at i done w h n e l g =
      let p = put_before new (v + v) at (v + at) (get_or vals i 0) done (omega arith) (omega arith) in
      let x = writing_next m vals time_ends o.rows v (take (v + v) out) start total at i done w.values h g (times_more out _ start total at i done w h l) in
      record {
        size = length-set (set new at (get_or vals i 0)) (v + at) done ∙ length-set new at (get_or vals i 0) ∙ n ∙ w.size;
        values = rw (p.0, e) x;
        leaves = rw p.1 l;
      }

  pub woven_past : (out new : List ℕ) (start total at i done : ℕ) → Woven m vals time_ends times diff_ends diffs v t out start total at i → i < length vals
      → length new ≡ length out → take (v + v) new ≡ take (v + v) out → Leaving m times diff_ends diffs t (drop (v + v) new) done (get_or time_ends i 0) → v ≤ at
      → Woven m vals time_ends times diff_ends diffs v t new (get_or time_ends i 0) done (at + bit (ltb total done)) (i + 1)
  woven_past out new start total at i done w h n e l g =
      let x = writing_past m vals time_ends o.rows v (take (v + v) out) start total at i done w.values h g (times_more out _ start total at i done w h l) in
      record { size = n ∙ w.size; values = rw e x; leaves = l }

  -- so many values are written as have a time that stays
  pub values_more : (out new : List ℕ) (start total at i start' total' at' j : ℕ) → Woven m vals time_ends times diff_ends diffs v t out start total at i
      → Woven m vals time_ends times diff_ends diffs v t new start' total' at' j → i ≤ j → j ≤ length vals → at' ≡ at + count_kept (list_kept m time_ends) i (j - i)
  values_more out new start total at i start' total' at' j w u h b =
      let p = writing_left m vals time_ends o.rows v _ start total at i w.values (omega arith) in
      let q = writing_left m vals time_ends o.rows v _ start' total' at' j u.values b in
      let f = count_from_lem (list_kept m time_ends) i j (length vals) h b in omega arith

-- ---- keys above them

module _ (m : ℕ → Bool) (keys val_ends vals time_ends times diff_ends diffs : List ℕ) (k v t : ℕ) where
  abbrev value_stays : ℕ → Bool
  value_stays = list_kept m time_ends

  -- keys with their ends, and behind them the values and times of those that are looked at
  pub record Layering (out : List ℕ) (start time written total at i : ℕ) : Type 0 where
    pub size : length out ≡ (k + k) + ((v + v) + (t + (t + t)))
    pub top : Writing value_stays keys val_ends k (take (k + k) out) start total at i
    pub woven : Woven m vals time_ends times diff_ends diffs v t (drop (k + k) out) time written total start

  module _ (b : Bodies keys val_ends vals time_ends times diff_ends diffs) where
    pub layers_start : (out : List ℕ) → Left m keys val_ends vals time_ends times k v t → length out ≡ (k + k) + ((v + v) + (t + (t + t))) → Layering out 0 0 0 0 0 0
    layers_start out l h =
        let d : length (drop (k + k) out) ≡ (v + v) + (t + (t + t)) = length-drop (k + k) out ∙ omega arith in
        let f : length (drop (v + v) (drop (k + k) out)) ≡ t + (t + t) = length-drop (v + v) (drop (k + k) out) ∙ omega arith in
        record {
          size = h;
          top = writing_start value_stays keys val_ends b.over_vals.rows k (take (k + k) out) b.over_vals.rises.rise l.keys_left (length-take-le (k + k) out (omega arith));
          woven =
              record {
                size = d;
                values = writing_start m vals time_ends b.over_times.rows v (take (v + v) (drop (k + k) out)) b.over_times.rises.rise l.vals_left (length-take-le (v + v) (drop (k + k) out) (omega arith));
                leaves = leaving_start m times diff_ends diffs t (drop (v + v) (drop (k + k) out)) l.times_left f;
              };
        }

    -- while some are left to write there is a key to look at
    pub layers_within : (out : List ℕ) (start time written total at i : ℕ) → Layering out start time written total at i → at < k → i < length keys
    layers_within out start time written total at i w h = writing_within value_stays keys val_ends b.over_vals.rows k _ start total at i w.top h

    -- the values of the next key
    pub next_values : (out : List ℕ) (start time written total at i : ℕ) → Layering out start time written total at i → at < k
        → (start ≤ get_or val_ends i 0) × (get_or val_ends i 0 ≤ length vals)
    next_values out start time written total at i w h =
        let g = layers_within out start time written total at i w h in
        let a = (next_above value_stays keys val_ends b.over_vals.rows start i g w.top.rise).0 in
        (omega arith, (end_within val_ends (length vals) i (start_of val_ends i) b.over_vals.rises (let r = b.over_vals.rows in omega arith) refl).1)

    -- a key is written once its values are, and counts where one of them stays
    pub layers_next : (out new got : List ℕ) (start time written total at i time' written' done p : ℕ) → Layering out start time written total at i → at < k
        → length new ≡ length out → take (k + k) new ≡ take (k + k) out → Woven m vals time_ends times diff_ends diffs v t (drop (k + k) new) time' written' done (get_or val_ends i 0)
        → p ≡ bit (ltb total done) → got ≡ set (set new at (get_or keys i 0)) (k + at) done
        → Layering got (get_or val_ends i 0) time' written' done (at + p) (i + 1)
    layers_next out new got start time written total at i time' written' done p w h n e u ep eg =
        let g = layers_within out start time written total at i w h in
        let r = next_values out start time written total at i w h in
        let c = values_more m vals time_ends times diff_ends diffs b.over_times v t _ _ time written total start time' written' done (get_or val_ends i 0) w.woven u r.0 r.1 in
        let q = put_before new (k + k) at (k + at) (get_or keys i 0) done (omega arith) (omega arith) in
        let x = writing_next value_stays keys val_ends b.over_vals.rows k (take (k + k) out) start total at i done w.top g h c in
        rw (eg, ep)
        (record {
          size = length-set (set new at (get_or keys i 0)) (k + at) done ∙ length-set new at (get_or keys i 0) ∙ n ∙ w.size;
          top = rw (q.0, e) x;
          woven = rw q.1 u;
        })

    -- once all keys are written so is all else but the ends of the diffs
    pub layers_end : (out : List ℕ) (start time written total at i j : ℕ) → Layering out start time written total at i → i ≤ length keys → k ≤ at → j ≡ (k + k) + ((v + v) + t)
        → sets out j (count_up 0 t) ≡ bodies_out m keys val_ends vals time_ends times diff_ends diffs
    layers_end out start time written total at i j w hi h ej =
        let R : List ℕ = drop (k + k) out in
        let o = w.woven in
        let sk = silent value_stays keys val_ends b.over_vals.rows (length keys - i) k _ start total at i (omega arith) w.top h in
        let ek = b.over_vals.rises.last in
        let hs : start ≤ length vals = omega (arith, sk.0) in
        let zk : count_kept value_stays start (length vals - start) ≡ 0 = ap (λ (n : ℕ). count_kept value_stays start (n - start)) (sym ek) ∙ sk.1 in
        let pv = writing_left m vals time_ends b.over_times.rows v _ time written total start o.values hs in
        let hv : v ≤ total = omega arith in
        let sv = silent m vals time_ends b.over_times.rows (length vals - start) v _ time written total start (omega arith) o.values hv in
        let ev = b.over_times.rises.last in
        let zv : count_kept m time (length times - time) ≡ 0 = ap (λ (n : ℕ). count_kept m time (n - time)) (sym ev) ∙ sv.1 in
        let pt = o.leaves.place in
        let kw : take (k + k) out ≡ nodes_out value_stays keys val_ends = writing_end value_stays keys val_ends b.over_vals.rows k _ start total at i w.top h in
        let vw : take (v + v) R ≡ nodes_out m vals time_ends = writing_end m vals time_ends b.over_times.rows v _ time written total start o.values hv in
        let lw : sets (drop (v + v) R) t (count_up 0 t) ≡ leaves_out m times diff_ends diffs = leaving_end m times diff_ends diffs t _ written time o.leaves (omega arith) in
        let lk : length (take (k + k) out) ≡ k + k = w.top.room in
        let lv : length (take (v + v) R) ≡ v + v = o.values.room in
        let parts : out ≡ take (k + k) out ++ (take (v + v) R ++ drop (v + v) R) = sym (ap (λ (l : List ℕ). take (k + k) out ++ l) (take-append-drop (v + v) R) ∙ take-append-drop (k + k) out) in
        let j1 : j ≡ length (take (k + k) out) + ((v + v) + t) = omega arith in
        let j2 : (v + v) + t ≡ length (take (v + v) R) + t = omega arith in
        (λ x. sets (parts x) (j1 x) (count_up 0 t))
        ∙ sets_past (count_up 0 t) (take (k + k) out) (take (v + v) R ++ drop (v + v) R) ((v + v) + t)
        ∙ ap (λ (n : ℕ). take (k + k) out ++ sets (take (v + v) R ++ drop (v + v) R) n (count_up 0 t)) j2
        ∙ ap (λ (l : List ℕ). take (k + k) out ++ l) (sets_past (count_up 0 t) (take (v + v) R) (drop (v + v) R) t)
        ∙ (λ x. kw x ++ (vw x ++ lw x))

-- the words of the bodies: an item and an end of each that stays, and of a time a diff too
pub length-bodies_out : (m : ℕ → Bool) (keys val_ends vals time_ends times diff_ends diffs : List ℕ) (k v t : ℕ) → Left m keys val_ends vals time_ends times k v t
    → length (bodies_out m keys val_ends vals time_ends times diff_ends diffs) ≡ (k + k) + ((v + v) + (t + (t + t)))
length-bodies_out m keys val_ends vals time_ends times diff_ends diffs k v t l =
    let a = length-nodes_out (list_kept m time_ends) keys val_ends k l.keys_left in
    let b = length-nodes_out m vals time_ends v l.vals_left in
    let d = length-leaves_out m times diff_ends diffs t l.times_left in
    let p = length-append (nodes_out (list_kept m time_ends) keys val_ends) (nodes_out m vals time_ends ++ leaves_out m times diff_ends diffs) in
    let q = length-append (nodes_out m vals time_ends) (leaves_out m times diff_ends diffs) in
    omega arith
