-- `merge::sound_at` meets its contract: by the place of the cursor's time.
use Rattle.std.proofs.Common.{◌∙◌, le-ltb}
use Rattle.reports.proofs.Moving.{reading}
use Rattle.merge.proofs.Sounding.{no_time, its_place}
use Rattle.merge.proofs.sound_at.Goals as goal

pub place_at-requires : goal.place_at-requires
place_at-requires c = record { read = c.requires; t_in_bounds = rw (reading _ _ c.requires).counted c.if-cursor-chunk.true }

pub returns-then-cursor-chunk : goal.returns-then-cursor-chunk
returns-then-cursor-chunk c = c.eq.ensures ∙ its_place _ _ c.place_at.result (rw (reading _ _ c.requires).counted c.if-cursor-chunk.true) c.place_at.ensures

pub returns-else-cursor-chunk : goal.returns-else-cursor-chunk
returns-else-cursor-chunk c = le-ltb _ _ c.if-cursor-chunk.false ∙ no_time _ _ (rw (reading _ _ c.requires).counted c.if-cursor-chunk.false)
