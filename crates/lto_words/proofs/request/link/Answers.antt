use Rattle.std.proofs.Common.{codes}
use Rattle.lto_words.specs.Commands.{HasLinkOptions, IsLink}
use Rattle.lto_words.specs.Given.{HasFile, HasFiles, rows_in}
use Rattle.lto_words.proofs.Reading.{of_link, refused}
use Rattle.lto_words.proofs.request.link.Goals as goal

pub returns-in_err-options : goal.returns-in_err-options
returns-in_err-options c =
    let rows = rows_in c.args.matches.now in
    refused (HasLinkOptions rows) (IsLink rows) (λ command is. let parts = of_link rows command is in (parts.0, parts.3)) c.from_residual.result _ c.from_residual.ensures.1 c.in_err-options.ensures

pub returns-in_err-out : goal.returns-in_err-out
returns-in_err-out c =
    let rows = rows_in c.args.matches.now in
    refused (HasFile (codes "o") rows) (IsLink rows) (λ command is. let parts = of_link rows command is in (parts.1, parts.4)) c.from_residual-in_err-out.result _ c.from_residual-in_err-out.ensures.1 c.in_err-out.ensures

pub returns-in_err-files : goal.returns-in_err-files
returns-in_err-files c =
    let rows = rows_in c.args.matches.now in
    refused (HasFiles rows) (IsLink rows) (λ command is. let parts = of_link rows command is in (parts.2, parts.5)) c.from_residual-in_err-files.result _ c.from_residual-in_err-files.ensures.1 c.in_err-files.ensures

pub returns : goal.returns
returns c = (c.in_ok-options.ensures, c.in_ok-out.ensures, c.in_ok-files.ensures)
