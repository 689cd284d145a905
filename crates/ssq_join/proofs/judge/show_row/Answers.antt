use Rattle.std.proofs.Common.{◌≡◌, ◌∷◌, Some, None, Option, Ok, Err, Result, ap, sym, subst, ◌∙◌}
use Rattle.std.specs.Prelude.{OnOk}
use Rattle.ssq_shape.specs.Evaluation.{Overflow, overflow}
use Rattle.ssq_shape.specs.Plain.{shown}
use Rattle.ssq_expr.specs.Answers.{Answers, itself}
use Rattle.ssq_expr.specs.declared.fault.EvalFault.{EvalFault}
use Rattle.ssq_meaning.specs.Meaning.{Values}
use Rattle.ssq_join.specs.Telling.{Tells}
use Rattle.ssq_join.proofs.Telling.{both_ok, fault_told, nothing_told, row_told}
use Rattle.ssq_join.proofs.judge.show_row.Goals as goal

pub returns-in-Ok-Some-clause-told : goal.returns-in-Ok-Some-clause-told
returns-in-Ok-Some-clause-told c all tells =
    let meant : shown c.args.bound.now c.args.row.now ≡ Ok (Some c.in-Ok-Some.shown) = c.in-Ok-Some.ensures.row ∙ ap Ok c.in-Ok-Some.field-0-is in
    let rows = rw (c.in-Ok-Some.field-0-is) at c.add_row.ensures.rows in
    subst (λ (shown : Result (Option Values) Overflow). OnOk c.add_row.result (Tells c.add_row.new.self (record { key = c.args.key.now; row = shown } ∷ all))) (sym meant)
    (both_ok c.add_row.result (λ rows fault. row_told c.args.found.now c.add_row.new.self c.args.key.now c.in-Ok-Some.shown rows fault all tells) rows c.add_row.ensures.fault)

pub returns-in-Ok-None-clause-told : goal.returns-in-Ok-None-clause-told
returns-in-Ok-None-clause-told c all tells =
    let meant : shown c.args.bound.now c.args.row.now ≡ Ok None = c.in-Ok-None.ensures.row ∙ ap Ok c.in-Ok-None.field-0-is in
    subst (λ (shown : Result (Option Values) Overflow). Tells c.args.found.now (record { key = c.args.key.now; row = shown } ∷ all)) (sym meant) (nothing_told c.args.found.now c.args.key.now all tells)

pub returns-in-Err-Overflow-clause-told : goal.returns-in-Err-Overflow-clause-told
returns-in-Err-Overflow-clause-told c all tells =
    let meant : shown c.args.bound.now c.args.row.now ≡ Err overflow =
    subst (λ (cause : EvalFault). Answers (itself {A = Option Values}) (Err cause) (shown c.args.bound.now c.args.row.now)) c.in-Err-Overflow.field-0-is c.in-Err-Overflow.ensures.row in
    subst (λ (shown : Result (Option Values) Overflow). OnOk c.add_fault.result (Tells c.add_fault.new.self (record { key = c.args.key.now; row = shown } ∷ all))) (sym meant)
    (both_ok c.add_fault.result (λ rows fault. fault_told c.args.found.now c.add_fault.new.self c.args.key.now rows fault all tells) c.add_fault.ensures.rows c.add_fault.ensures.fault)
