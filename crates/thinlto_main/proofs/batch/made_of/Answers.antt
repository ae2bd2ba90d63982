use Rattle.std.proofs.Common.{◌≡◌, ℕ, List, Option, length, subst, sym}
use Rattle.std.specs.Prelude.{All, IfErr, IfOk}
use Rattle.back_pool.specs.Making.{IsTrusted}
use Rattle.lto_words.specs.Fetching.{IsShort}
use Rattle.run_program.specs.Causes.{Because, never}
use Rattle.thinlto_main.specs.Keys.{IsKeyOf}
use Rattle.thinlto_main.specs.Linking.{IsLinkable, IsMadeIf, IsUnlinkable}
use Rattle.thinlto_main.specs.Modules.{FirstBad}
use Rattle.thinlto_main.proofs.batch.made_of.Goals as goal

pub made-requires-clause-each : goal.made-requires-clause-each
made-requires-clause-each g c κs within =
    subst (λ (b : List (Option (List ℕ))). length b ≡ length c.as_slice-names.result.now) (sym c.as_slice.ensures)
    (subst (λ (n : List (List ℕ)). length c.args.given.now ≡ length n) (sym c.as_slice-names.ensures) c.requires.given.each)

pub made-requires-clause-short : goal.made-requires-clause-short
made-requires-clause-short g c κs within = subst (All IsShort) (sym c.as_slice.ensures) c.requires.given.short

pub made-requires-clause-keys : goal.made-requires-clause-keys
made-requires-clause-keys g c κs within = λ key is. c.requires.keys key (subst (λ (b : List (Option (List ℕ))). IsKeyOf c.args.options.now b key) c.as_slice.ensures is)

pub made-requires-clause-pass : goal.made-requires-clause-pass
made-requires-clause-pass g c κs within = c.requires.pass

pub made-requires-clause-meaning : goal.made-requires-clause-meaning
made-requires-clause-meaning g c κs within = c.requires.meaning

pub returns-clause-pass : goal.returns-clause-pass
returns-clause-pass g c = c.made.ensures.pass

pub returns-clause-made : goal.returns-clause-made
returns-clause-made g c = subst (λ (b : List (Option (List ℕ))). IfOk c.made.result (IsMadeIf (IsTrusted g.S.Setting.dir g.D.CacheDisk.fits g.S.Setting.files) c.args.options.now b)) c.as_slice.ensures c.made.ensures.made

pub returns-clause-linkable : goal.returns-clause-linkable
returns-clause-linkable g c =
    subst (λ (n : List (List ℕ)). IfOk c.made.result (λ _. IsLinkable c.args.options.now n c.args.given.now)) c.as_slice-names.ensures
    (subst (λ (b : List (Option (List ℕ))). IfOk c.made.result (λ _. IsLinkable c.args.options.now c.as_slice-names.result.now b)) c.as_slice.ensures c.made.ensures.linkable)

pub returns-clause-because : goal.returns-clause-because
returns-clause-because g c =
    subst (λ (n : List (List ℕ)). IfErr c.made.result (Because (record never { refused = FirstBad n c.args.given.now; unlinked = IsUnlinkable c.args.options.now n c.args.given.now; memory = Unit {0} }))) c.as_slice-names.ensures
    (subst (λ (b : List (Option (List ℕ))). IfErr c.made.result (Because (record never { refused = FirstBad c.as_slice-names.result.now b; unlinked = IsUnlinkable c.args.options.now c.as_slice-names.result.now b; memory = Unit {0} }))) c.as_slice.ensures c.made.ensures.because)
