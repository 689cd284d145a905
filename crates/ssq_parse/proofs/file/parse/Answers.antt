use Rattle.std.proofs.Common.{rules, arith}
use Rattle.std.proofs.lemmas.Grind.{common_steps}
use Rattle.ssq_parse.proofs.Files.{no_text, text_answers, each_found}
use Rattle.ssq_parse.proofs.FirstFault.{fault_first}
use Rattle.ssq_parse.proofs.Selects.{parsed}
use Rattle.ssq_parse.proofs.Texts.{read_again}
use Rattle.ssq_parse.specs.File.{Answers, query_of}
use Rattle.ssq_parse.proofs.file.parse.Goals as goal

pub returns-in-Ok : goal.returns-in-Ok
returns-in-Ok c =
    let answer : Answers (query_of c.args.file.now) c.parse_text.result =
    text_answers c.args.file.now _ c.parse_text.result (omega arith) c.in-Ok.ensures.cases.1 c.in-Ok.ensures.cases.0 c.parse_text.ensures in
    record { answer = answer; written = parsed c.args.file.now c.parse_text.result answer; each = each_found c.args.file.now c.parse_text.result answer; first = fault_first c.args.file.now c.parse_text.result answer; again = read_again c.args.file.now c.parse_text.result answer c.text_is_parsed.ensures }

pub returns-in-Err-clause-answer : goal.returns-in-Err-clause-answer
returns-in-Err-clause-answer c =
    let e = no_text c.args.file.now (omega arith) c.in-Err.ensures.cases.0 in
    first_of (search rules, grind (arith, common_steps))
