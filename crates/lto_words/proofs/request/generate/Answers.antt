use Rattle.lto_words.specs.Commands.{IsGen}
use Rattle.lto_words.specs.Given.{HasNumber, rows_in}
use Rattle.lto_words.specs.Table as table
use Rattle.lto_words.proofs.Reading.{of_gen, refused}
use Rattle.lto_words.proofs.request.generate.Goals as goal

pub returns-in_err-seed : goal.returns-in_err-seed
returns-in_err-seed c =
    let rows = rows_in c.args.matches.now in
    refused (HasNumber table.seed rows) (IsGen rows) (λ command is. let parts = of_gen rows command is in (parts.0, parts.3)) c.from_residual.result _ c.from_residual.ensures.1 c.in_err-seed.ensures

pub returns-in_err-modules : goal.returns-in_err-modules
returns-in_err-modules c =
    let rows = rows_in c.args.matches.now in
    refused (HasNumber table.modules rows) (IsGen rows) (λ command is. let parts = of_gen rows command is in (parts.1, parts.4)) c.from_residual-in_err-modules.result _ c.from_residual-in_err-modules.ensures.1 c.in_err-modules.ensures

pub returns-in_err-jobs : goal.returns-in_err-jobs
returns-in_err-jobs c =
    let rows = rows_in c.args.matches.now in
    refused (HasNumber table.jobs rows) (IsGen rows) (λ command is. let parts = of_gen rows command is in (parts.2, parts.5)) c.from_residual-in_err-jobs.result _ c.from_residual-in_err-jobs.ensures.1 c.in_err-jobs.ensures

pub returns : goal.returns
returns c = (c.in_ok-seed.ensures, c.in_ok-modules.ensures, c.in_ok-jobs.ensures)
