use Rattle.ssq_parse.proofs.Texts.{text_read}
use Rattle.ssq_parse.proofs.file.text_is_parsed.Goals as goal

pub returns : goal.returns
returns c =
    text_read c.printed_is_read.ensures.read c.printed_is_read.ensures.utf8 c.tokens_are_sayable.ensures c.text_is_read_again.ensures c.text_is_sayable.ensures
