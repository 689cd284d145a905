use Rattle.std.proofs.Common.{Some, None, option_copied, option_map, sym, ap, ◌∙◌}
use Rattle.ssq_version.specs.Text.{shown}
use Rattle.ssq_version.proofs.Laid.{said_by_newer, said_by_older}
use Rattle.ssq_version.proofs.layers.kept_in.Goals as goal

pub returns-in-Some : goal.returns-in-Some
returns-in-Some c = said_by_newer (shown c.args.older.now) (shown c.args.newer.now) c.args.key.now (option_copied c.in-Some.said) c.requires.older c.requires.newer (sym c.find.ensures ∙ ap (option_map option_copied) c.in-Some.is)

pub returns-in_ok-find-in-None : goal.returns-in_ok-find-in-None
returns-in_ok-find-in-None c =
    said_by_older (shown c.args.older.now) (shown c.args.newer.now) c.args.key.now (Some (option_copied c.in_ok-find-in-None.field-0)) c.requires.older c.requires.newer
    (sym c.find.ensures ∙ ap (option_map option_copied) c.in-None.is) (sym c.find-in-None.ensures ∙ ap (option_map option_copied) c.in_ok-find-in-None.was)

pub returns-in_err-find-in-None : goal.returns-in_err-find-in-None
returns-in_err-find-in-None c =
    ap option_copied c.from_residual.ensures
    ∙ said_by_older (shown c.args.older.now) (shown c.args.newer.now) c.args.key.now None c.requires.older c.requires.newer
    (sym c.find.ensures ∙ ap (option_map option_copied) c.in-None.is) (sym c.find-in-None.ensures ∙ ap (option_map option_copied) c.in_err-find-in-None.was)
