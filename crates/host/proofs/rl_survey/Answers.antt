-- `host::rl_survey` meets its contract: too short, refused as the survey refuses, or the reports and their number.
use Rattle.host.proofs.Surveying.{survey_refused, reports_ready, survey_laid}
use Rattle.host.proofs.rl_survey.Goals as goal

pub write_reports-requires : goal.write_reports-requires
write_reports-requires c = reports_ready _ _ c.args.lent.now c.args.answer.now c.if-answer-lt-SURVEY_WORDS.false _ c.in-Ok.ensures

pub returns-in-Ok : goal.returns-in-Ok
returns-in-Ok c = survey_laid _ _ _ _ c.if-answer-lt-SURVEY_WORDS.false _ c.in-Ok.ensures _ c.write_reports.ensures

pub returns-in-Err : goal.returns-in-Err
returns-in-Err c = rw c.number.ensures (survey_refused _ _ _ _ c.if-answer-lt-SURVEY_WORDS.false _ c.in-Err.ensures)
