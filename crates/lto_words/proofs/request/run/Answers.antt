use Rattle.lto_words.specs.Commands.{IsRun}
use Rattle.lto_words.specs.Given.{HasArgs, HasFiles, HasNumber, HasRoot, rows_in}
use Rattle.lto_words.specs.Table as table
use Rattle.lto_words.proofs.Reading.{of_run, refused}
use Rattle.lto_words.proofs.request.run.Goals as goal

pub returns-in_err-steps : goal.returns-in_err-steps
returns-in_err-steps c =
    let rows = rows_in c.args.matches.now in
    refused (HasNumber table.steps rows) (IsRun rows) (λ command is. let parts = of_run rows command is in (parts.2, parts.6)) c.from_residual.result _ c.from_residual.ensures.1 c.in_err-steps.ensures

pub returns-in_err-root : goal.returns-in_err-root
returns-in_err-root c =
    let rows = rows_in c.args.matches.now in
    refused (HasRoot rows) (IsRun rows) (λ command is. let parts = of_run rows command is in (parts.0, parts.4)) c.from_residual-in_err-root.result _ c.from_residual-in_err-root.ensures.1 c.in_err-root.ensures

pub returns-in_err-args : goal.returns-in_err-args
returns-in_err-args c =
    let rows = rows_in c.args.matches.now in
    refused (HasArgs rows) (IsRun rows) (λ command is. let parts = of_run rows command is in (parts.1, parts.5)) c.from_residual-in_err-args.result _ c.from_residual-in_err-args.ensures.1 c.in_err-args.ensures

pub returns-in_err-files : goal.returns-in_err-files
returns-in_err-files c =
    let rows = rows_in c.args.matches.now in
    refused (HasFiles rows) (IsRun rows) (λ command is. let parts = of_run rows command is in (parts.3, parts.7)) c.from_residual-in_err-files.result _ c.from_residual-in_err-files.ensures.1 c.in_err-files.ensures

pub returns : goal.returns
returns c = (c.in_ok-root.ensures, c.in_ok-args.ensures, c.in_ok-steps.ensures, c.in_ok-files.ensures)
