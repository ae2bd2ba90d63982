use Rattle.lto_words.specs.Commands.{HasLinkOptions}
use Rattle.lto_words.specs.Given.{HasCache, HasExports, HasNumber, rows_in}
use Rattle.lto_words.specs.Table as table
use Rattle.lto_words.proofs.Reading.{refused}
use Rattle.lto_words.proofs.request.link_options.Goals as goal

pub returns-in_err-jobs : goal.returns-in_err-jobs
returns-in_err-jobs c =
    let rows = rows_in c.args.matches.now in
    refused (HasNumber table.jobs rows) (HasLinkOptions rows) (λ options has. (options.jobs, has.jobs)) c.from_residual.result _ c.from_residual.ensures.1 c.in_err-jobs.ensures

pub returns-in_err-import_limit : goal.returns-in_err-import_limit
returns-in_err-import_limit c =
    let rows = rows_in c.args.matches.now in
    refused (HasNumber table.import_limit rows) (HasLinkOptions rows) (λ options has. (options.import_limit, has.import_limit)) c.from_residual-in_err-import_limit.result _ c.from_residual-in_err-import_limit.ensures.1 c.in_err-import_limit.ensures

pub returns-in_err-inline_limit : goal.returns-in_err-inline_limit
returns-in_err-inline_limit c =
    let rows = rows_in c.args.matches.now in
    refused (HasNumber table.inline_limit rows) (HasLinkOptions rows) (λ options has. (options.inline_limit, has.inline_limit)) c.from_residual-in_err-inline_limit.result _ c.from_residual-in_err-inline_limit.ensures.1 c.in_err-inline_limit.ensures

pub returns-in_err-cache : goal.returns-in_err-cache
returns-in_err-cache c =
    let rows = rows_in c.args.matches.now in
    refused (HasCache rows) (HasLinkOptions rows) (λ options has. (options.cache, has.cache)) c.from_residual-in_err-cache.result _ c.from_residual-in_err-cache.ensures.1 c.in_err-cache.ensures

pub returns-in_err-exports : goal.returns-in_err-exports
returns-in_err-exports c =
    let rows = rows_in c.args.matches.now in
    refused (HasExports rows) (HasLinkOptions rows) (λ options has. (options.exports, has.exports)) c.from_residual-in_err-exports.result _ c.from_residual-in_err-exports.ensures.1 c.in_err-exports.ensures

pub returns : goal.returns
returns c = record {
  jobs = c.in_ok-jobs.ensures;
  cache = c.in_ok-cache.ensures;
  exports = c.in_ok-exports.ensures;
  import_limit = c.in_ok-import_limit.ensures;
  inline_limit = c.in_ok-inline_limit.ensures;
}
