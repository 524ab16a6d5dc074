-- The second pass on its way through the updates: its counts and the pending update give, with the updates that are left, the counts of all
-- that is formed, and all that is written.
use Rattle.std.proofs.Common.{◌≡◌, ℕ, ◌+◌, ◌^◌, ◌<◌, ◌≤◌, Bool, true, false, cond, List, [], ◌∷◌, length, drop, sym, ap, ◌∙◌, subst, arith}
use Rattle.chunk.specs.declared.Contents.{Contents}
use Rattle.chunk.specs.Contents.{layout_of}
use Rattle.chunk.specs.Entry.{Entry}
use Rattle.sort.specs.Sort.{entry_of, nth}
use Rattle.sort.specs.declared.Update.{Update}
use Rattle.form.specs.declared.Counts.{Counts}
use Rattle.form.specs.declared.Consolidating.{Consolidating}
use Rattle.form.specs.Form.{consolidated, formed}
use Rattle.form.specs.Pass.{no_update, no_counts, counted, opens_key, opens_val, count_from, write_from, pushed, pushed_out, next_counts, next_pending, next_out, final_counts, Counting, Roomy, Taken, Stored, Placed}
use Rattle.form.proofs.Step.{counting_next}
use Rattle.form.proofs.Left.{turn, done, starts, count_turn, count_done, write_turn, write_done}

pub wider : {m n : ℕ} {c : Counts} → m ≤ n → Counting m c → Counting n c
wider l h = record { keys = omega (arith, h); vals = omega (arith, h); times = omega (arith, h); keyed = h.keyed; valued = h.valued }

-- the start of a pass
abbrev pub fresh : Consolidating
fresh = record { counts = no_counts; pending = no_update }

-- what the pass keeps
pub record Underway (es : List Entry) (i : ℕ) (s : Consolidating) : Type 0 where
  pub counting : Counting i s.counts
  pub counts : final_counts es ≡ count_from s.counts (consolidated (entry_of s.pending) (drop i es))

-- and what is written
pub record Writing (es : List Entry) (p : Contents) (before after : List ℕ) (i : ℕ) (s : Consolidating) : Type 0 where
  pub underway : Underway es i s
  pub writes : write_from p no_counts (formed es) before ≡ write_from p s.counts (consolidated (entry_of s.pending) (drop i es)) after

module _ (es : List Entry) (h : (nth es 0).diff < 2 ^ 64) where
  pub underway-starts : Underway es 0 fresh
  underway-starts =
      record {
        counting = record { keys = omega arith; vals = omega arith; times = omega arith; keyed = omega arith; valued = omega arith };
        counts = ap (λ (l : List Entry). count_from no_counts l) (starts es h);
      }

  pub writing_starts : (p : Contents) (out : List ℕ) → Writing es p out out 0 fresh
  writing_starts p out =
      record { underway = underway-starts; writes = ap (λ (l : List Entry). write_from p no_counts l out) (starts es h) }

-- ---- one update more

module _ (es : List Entry) (i : ℕ) (s r : Consolidating) (u : Update) (more : i < length es) (q : entry_of u ≡ nth es i) (t : Taken s u r) where
  opened : drop i es ≡ entry_of u ∷ drop (i + 1) es
  opened = turn es i more ∙ ap (λ (e : Entry). e ∷ drop (i + 1) es) (sym q)

  pub underway-turn : Underway es i s → Underway es (i + 1) r
  underway-turn h =
      record {
        counting =
            subst (λ (c : Counts). Counting (i + 1) c) (sym t.counts)
            (counting_next i s.counts (entry_of s.pending) h.counting (entry_of u));
        counts =
            h.counts
            ∙ ap (λ (l : List Entry). count_from s.counts (consolidated (entry_of s.pending) l)) opened
            ∙ count_turn s.counts (entry_of s.pending) (entry_of u) (drop (i + 1) es)
            ∙ ap (λ (c : Counts). count_from c (consolidated (next_pending (entry_of s.pending) (entry_of u)) (drop (i + 1) es))) (sym t.counts)
            ∙ ap (λ (e : Entry). count_from r.counts (consolidated e (drop (i + 1) es))) (sym t.pending);
      }

  pub writing_turn : (p : Contents) (first out after : List ℕ) → Writing es p first out i s → Stored p s u out r after → Writing es p first after (i + 1) r
  writing_turn p first out after h k =
      record {
        underway = underway-turn h.underway;
        writes =
            h.writes
            ∙ ap (λ (l : List Entry). write_from p s.counts (consolidated (entry_of s.pending) l) out) opened
            ∙ write_turn s.counts (entry_of s.pending) p out (entry_of u) (drop (i + 1) es)
            ∙ ap (λ (c : Counts). write_from p c (consolidated (next_pending (entry_of s.pending) (entry_of u)) (drop (i + 1) es)) (next_out p s.counts (entry_of s.pending) (entry_of u) out)) (sym t.counts)
            ∙ ap (λ (e : Entry). write_from p r.counts (consolidated e (drop (i + 1) es)) (next_out p s.counts (entry_of s.pending) (entry_of u) out)) (sym t.pending)
            ∙ ap (λ (o : List ℕ). write_from p r.counts (consolidated (entry_of r.pending) (drop (i + 1) es)) o) (sym k.stores);
      }

-- ---- counts only grow

pub record Below (c d : Counts) : Type 0 where
  pub keys : c.nk ≤ d.nk
  pub vals : c.nv ≤ d.nv
  pub times : c.nt ≤ d.nt

pub kept_or-more : (t : Bool) (n : ℕ) → n ≤ cond t (n + 1) n
kept_or-more true n = omega arith
kept_or-more false n = omega arith

grows_once : (c : Counts) (e : Entry) (d : Counts) → Below (counted c e) d → Below c d
grows_once c e d h =
    record {
      keys = omega (arith, h.keys, kept_or-more (opens_key c e) c.nk);
      vals = omega (arith, h.vals, kept_or-more (opens_val c e) c.nv);
      times = omega (arith, h.times);
    }

pub grows : (c : Counts) (es : List Entry) → Below c (count_from c es)
unfolding count_from
grows c [] = record { keys = omega arith; vals = omega arith; times = omega arith }
grows c (e ∷ es) = grows_once c e _ (grows (counted c e) es)

-- an output that holds the whole chunk holds what is counted on the way
roomy_laid : (k v t : ℕ) (c : Counts) (out : List ℕ) → c.nk ≤ k → c.nv ≤ v → c.nt ≤ t → (layout_of k v t t).size ≤ length out → Roomy (layout_of k v t t) c out
roomy_laid k v t c out hk hv ht room =
    record { keys = omega arith; val_ends = omega arith; vals = omega arith; time_ends = omega arith; times = omega arith; diff_ends = omega arith; diffs = omega arith }

pub roomy : (es : List Entry) (p : Contents) (first out : List ℕ) (c : Counts) → Placed es p first → length out ≡ length first → Below c (final_counts es) → Roomy p c out
roomy es p first out c h l b =
    let f : Counts = final_counts es in
    let q : p ≡ layout_of f.nk f.nv f.nt f.nt = h.laid in
    let m : p.size ≤ length first = h.room in
    subst (λ (x : Contents). Roomy x c out) (sym q)
    (roomy_laid f.nk f.nv f.nt c out b.keys b.vals b.times (rw (l) (rw q at m)))

-- ---- at the last update

module _ (es : List Entry) (i : ℕ) (s : Consolidating) (over : length es ≤ i) where
  pub underway_ends : Underway es i s → final_counts es ≡ pushed s.counts (entry_of s.pending)
  underway_ends h =
      h.counts
      ∙ ap (λ (l : List Entry). count_from s.counts (consolidated (entry_of s.pending) l)) (done es i over)
      ∙ count_done s.counts (entry_of s.pending)

  pub writing_ends : (p : Contents) (first out : List ℕ) → Writing es p first out i s
      → write_from p no_counts (formed es) first ≡ pushed_out p s.counts (entry_of s.pending) out
  writing_ends p first out h =
      h.writes
      ∙ ap (λ (l : List Entry). write_from p s.counts (consolidated (entry_of s.pending) l) out) (done es i over)
      ∙ write_done s.counts (entry_of s.pending) p out

-- ---- within the counts of all that is formed

pub below_turn : (es : List Entry) (i : ℕ) (s : Consolidating) (u : Update) → i < length es → entry_of u ≡ nth es i → Underway es i s
    → Below (next_counts s.counts (entry_of s.pending) (entry_of u)) (final_counts es)
below_turn es i s u more q h =
    subst (λ (f : Counts). Below (next_counts s.counts (entry_of s.pending) (entry_of u)) f)
    (sym (h.counts
    ∙ ap (λ (l : List Entry). count_from s.counts (consolidated (entry_of s.pending) l)) (turn es i more ∙ ap (λ (e : Entry). e ∷ drop (i + 1) es) (sym q))
    ∙ count_turn s.counts (entry_of s.pending) (entry_of u) (drop (i + 1) es)))
    (grows _ _)

pub below_end : (es : List Entry) (i : ℕ) (s : Consolidating) → length es ≤ i → Underway es i s → Below (pushed s.counts (entry_of s.pending)) (final_counts es)
below_end es i s over h =
    subst (λ (f : Counts). Below (pushed s.counts (entry_of s.pending)) f) (sym (underway_ends es i s over h))
    (record { keys = omega arith; vals = omega arith; times = omega arith })
