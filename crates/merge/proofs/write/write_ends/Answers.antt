-- `merge::write::write_ends` meets its contract: with the lists that are left the ends are whole.
use Rattle.std.proofs.Common.{arith}
use Rattle.reports.proofs.WriteEnds.{length_reports, size-some, count_room, list_room, next_ending, no_more_ends}
use Rattle.merge.proofs.write.write_ends.Goals as goal

pub front-requires : goal.front-requires
front-requires c =
    let w = rw c.in-Some.ensures.steps at c.loop-list.invariant in
    let r = c.loop-list.left in
    omega (arith, size-some _ _ _ _ _ _ _ _ _ _ w _ c.group_size-size.ensures, length_reports r.words.now r.from r.count)

pub count_items-next-requires : goal.count_items-next-requires
count_items-next-requires c =
    let w = rw c.in-Some.ensures.steps at c.loop-list.invariant in
    rw c.front.ensures (count_room _ _ _ _ _ _ _ _ _ _ w _ c.group_size-size.ensures)

pub low-requires : goal.low-requires
low-requires c =
    let w = rw c.in-Some.ensures.steps at c.loop-list.invariant in
    let r = c.loop-list.left in
    omega (arith, size-some _ _ _ _ _ _ _ _ _ _ w _ c.group_size-size.ensures, length_reports r.words.now r.from r.count)

pub write_list-at-requires : goal.write_list-at-requires
write_list-at-requires c =
    let w = rw c.in-Some.ensures.steps at c.loop-list.invariant in
    let n = rw c.front.ensures at c.count_items-next.ensures in
    list_room _ _ _ _ _ _ _ _ _ _ w _ c.group_size-size.ensures _ n

pub past-left-requires : goal.past-left-requires
past-left-requires c =
    let w = rw c.in-Some.ensures.steps at c.loop-list.invariant in
    let r = c.loop-list.left in
    omega (arith, size-some _ _ _ _ _ _ _ _ _ _ w _ c.group_size-size.ensures, length_reports r.words.now r.from r.count)

pub loop-list-preserved : goal.loop-list-preserved
loop-list-preserved c =
    let w = rw c.in-Some.ensures.steps at c.loop-list.invariant in
    let n = rw c.front.ensures at c.count_items-next.ensures in
    let o = rw c.low.ensures at c.write_list-at.ensures.out_after in
    rw c.past-left.ensures (next_ending _ _ _ _ _ _ _ _ _ _ w _ c.group_size-size.ensures _ n c.write_list-at.ensures.value o)

pub returns : goal.returns
returns c = let w = rw c.in-None.ensures.steps.0 at c.loop-list.invariant in no_more_ends _ _ _ _ _ _ _ _ w
