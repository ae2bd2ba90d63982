use Rattle.lto_words.specs.Commands.{IsIndex}
use Rattle.lto_words.specs.Given.{HasExports, HasFiles, HasNumber, rows_in}
use Rattle.lto_words.specs.Table as table
use Rattle.lto_words.proofs.Reading.{of_index, refused}
use Rattle.lto_words.proofs.request.index.Goals as goal

pub returns-in_err-import_limit : goal.returns-in_err-import_limit
returns-in_err-import_limit c =
    let rows = rows_in c.args.matches.now in
    refused (HasNumber table.import_limit rows) (IsIndex rows) (λ command is. let parts = of_index rows command is in (parts.1, parts.4)) c.from_residual.result _ c.from_residual.ensures.1 c.in_err-import_limit.ensures

pub returns-in_err-exports : goal.returns-in_err-exports
returns-in_err-exports c =
    let rows = rows_in c.args.matches.now in
    refused (HasExports rows) (IsIndex rows) (λ command is. let parts = of_index rows command is in (parts.0, parts.3)) c.from_residual-in_err-exports.result _ c.from_residual-in_err-exports.ensures.1 c.in_err-exports.ensures

pub returns-in_err-files : goal.returns-in_err-files
returns-in_err-files c =
    let rows = rows_in c.args.matches.now in
    refused (HasFiles rows) (IsIndex rows) (λ command is. let parts = of_index rows command is in (parts.2, parts.5)) c.from_residual-in_err-files.result _ c.from_residual-in_err-files.ensures.1 c.in_err-files.ensures

pub returns : goal.returns
returns c = (c.in_ok-exports.ensures, c.in_ok-import_limit.ensures, c.in_ok-files.ensures)
