use Rattle.std.proofs.Common.{◌≡◌, ℕ, Some, slice_get, refl, subst}
use Rattle.machine_code.specs.Roots as lowered
use Rattle.ir_interp.specs.Steps.{CanBegin}
use Rattle.run_program.specs.Roots.{function_in}
use Rattle.run_program.proofs.Rooting.{is_root, no_root, root_count, root_gives, root_there, root_typed}
use Rattle.run_program.proofs.root.root_function.Goals as goal

pub returns-in_err-root-clause-none : goal.returns-in_err-root-clause-none
returns-in_err-root-clause-none c = λ e. no_root c.args.globals.now c.args.name.now (λ i types r. c.in_err-root.ensures.none refl c.args.globals.now i types c.requires.made r)

pub returns-in_err-function-clause-none : goal.returns-in_err-function-clause-none
returns-in_err-function-clause-none c = λ e.
    let gs = c.args.globals.now in
    let i = c.in_ok-root.root.index in
    let types = c.in_ok-root.root.params.now in
    let r : lowered.IsRoot gs c.args.name.now i types = c.in_ok-root.ensures.some gs c.requires.made in
    absurd (root_there gs c.requires.runnable c.args.name.now i types r c.in_err-function.ensures)

pub returns : goal.returns
returns c =
    let gs = c.args.globals.now in
    let runs = c.requires.runnable in
    let name = c.args.name.now in
    let i = c.in_ok-root.root.index in
    let types = c.in_ok-root.root.params.now in
    let f = c.in_ok-function.function.now in
    let r : lowered.IsRoot gs name i types = c.in_ok-root.ensures.some gs c.requires.made in
    let found : Some f ≡ function_in (slice_get gs i) = c.in_ok-function.ensures in
    record {
      begins = subst (λ (k : ℕ). CanBegin c.args.lowered.now.code i k) (root_count gs runs name i types r f found) c.in_ok-root.ensures.begins;
      some = is_root gs runs name i types r f found;
      params = root_typed gs runs name i types r f found;
      gives = root_gives gs runs name i types r f found;
      none = λ e. absurd (cc e);
    }
