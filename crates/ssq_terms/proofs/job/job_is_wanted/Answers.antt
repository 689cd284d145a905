use Rattle.ssq_terms.proofs.Covering.{states_are}
use Rattle.ssq_terms.proofs.Wanted.{job_wanted, first_record, parts_found, fit}
use Rattle.ssq_terms.proofs.job.job_is_wanted.Goals as goal

pub returns-clause-wanted : goal.returns-clause-wanted
returns-clause-wanted c = job_wanted c.rows_fit_their_schema.ensures c.jobs_are_causal.ensures c.plans_can_be_written.ensures

pub returns-clause-states : goal.returns-clause-states
returns-clause-states c = states_are c.files_hold_states.ensures.files c.files_hold_states.ensures.held

pub returns-clause-first : goal.returns-clause-first
returns-clause-first c = first_record

pub returns-clause-parts : goal.returns-clause-parts
returns-clause-parts c = parts_found

pub returns-clause-fit : goal.returns-clause-fit
returns-clause-fit c = fit
