use Rattle.std.proofs.Common.{◌≡◌, ◌<◌, ℕ, List, Option, arith, length, subst, sym, take, take_all}
use Rattle.std.specs.List.{AllZip}
use Rattle.link_one.proofs.Zipping.{zip_next}
use Rattle.lto_words.specs.Links.{GivenFor}
use Rattle.run_program.proofs.Causes.{because_map}
use Rattle.lto_words.specs.declared.listing.ListedLink.{ListedLink}
use Rattle.back_pool.specs.Making.{IsTrusted}
use Rattle.thinlto_main.specs.Batching.{AreLinkable}
use Rattle.thinlto_main.specs.Linking.{IsLinkable, IsMadeIf}
use Rattle.thinlto_main.proofs.Batching.{link_because, zip_at, zip_both, zip_length, zip_within}
use Rattle.thinlto_main.proofs.batch.all_made.Goals as goal

pub bounds-given-at : goal.bounds-given-at
bounds-given-at g c = zip_within GivenFor c.args.links.now c.args.given.now c.loop-at.at c.requires.each c.loop-at-test.true

pub made_of-requires-clause-given : goal.made_of-requires-clause-given
made_of-requires-clause-given g c κs within =
    zip_at GivenFor c.args.links.now c.args.given.now c.loop-at.at c.index-links-at.result c.index-given-at.result c.requires.each c.loop-at-test.true c.index-links-at.is c.index-given-at.is

pub returns-in-Err-clause-because : goal.returns-in-Err-clause-because
returns-in-Err-clause-because g c =
    because_map
    (link_because c.args.options.now c.args.links.now c.args.given.now c.loop-at.at c.index-links-at.result c.index-given-at.result c.requires.each c.loop-at.invariant.linkable c.loop-at-test.true c.index-links-at.is c.index-given-at.is)
    c.in-Err.why c.in-Err.ensures.because

pub made_of-requires-clause-keys : goal.made_of-requires-clause-keys
made_of-requires-clause-keys g c κs within = λ key is.
    let lt : c.loop-at.at < length c.args.given.now = zip_within GivenFor c.args.links.now c.args.given.now c.loop-at.at c.requires.each c.loop-at-test.true in
    c.requires.keys key (record { given = c.index-given-at.result; one = (c.loop-at.at, lt, sym c.index-given-at.is); is = is })

pub loop-at-preserved : goal.loop-at-preserved
loop-at-preserved g c =
    let trusted = IsTrusted g.S.Setting.dir g.D.CacheDisk.fits g.S.Setting.files in
    let within : c.loop-at.at < length c.args.given.now = zip_within GivenFor c.args.links.now c.args.given.now c.loop-at.at c.requires.each c.loop-at-test.true in
    record {
      pass = c.made_of.ensures.pass;
      made = zip_next (IsMadeIf trusted c.args.options.now) c.args.given.now c.loop-at.at c.index-given-at.result within c.index-given-at.is c.loop-at.texts c.push.new.self c.in-Ok.text c.loop-at.invariant.made c.in-Ok.ensures.made c.in-Ok-push.ensures.ok;
      linkable =
          zip_both (λ link bytes. IsLinkable c.args.options.now link.files bytes) c.args.links.now c.args.given.now c.loop-at.at c.index-links-at.result c.index-given-at.result c.loop-at.invariant.linkable c.loop-at-test.true within c.index-links-at.is c.index-given-at.is
          c.in-Ok.ensures.linkable;
    }

pub returns-clause-made : goal.returns-clause-made
returns-clause-made g c =
    let same : length c.args.given.now ≡ length c.args.links.now = zip_length GivenFor c.args.links.now c.args.given.now c.requires.each in
    subst (λ (given : List (List (Option (List ℕ)))). AllZip (IsMadeIf (IsTrusted g.S.Setting.dir g.D.CacheDisk.fits g.S.Setting.files) c.args.options.now) given c.loop-at.texts)
    (take_all c.loop-at.at c.args.given.now (omega (arith, same, c.loop-at-test.false))) c.loop-at.invariant.made

pub returns-clause-linkable : goal.returns-clause-linkable
returns-clause-linkable g c =
    let same : length c.args.given.now ≡ length c.args.links.now = zip_length GivenFor c.args.links.now c.args.given.now c.requires.each in
    subst (λ (links : List ListedLink). AreLinkable c.args.options.now links c.args.given.now) (take_all c.loop-at.at c.args.links.now (omega (arith, c.loop-at-test.false)))
    (subst (λ (given : List (List (Option (List ℕ)))). AreLinkable c.args.options.now (take c.loop-at.at c.args.links.now) given) (take_all c.loop-at.at c.args.given.now (omega (arith, same, c.loop-at-test.false))) c.loop-at.invariant.linkable)

pub made_of-requires-clause-pass : goal.made_of-requires-clause-pass
made_of-requires-clause-pass g c κs within = c.loop-at.invariant.pass

pub made_of-requires-clause-meaning : goal.made_of-requires-clause-meaning
made_of-requires-clause-meaning g c κs within = c.requires.meaning

pub returns-in_default-clause-pass : goal.returns-in_default-clause-pass
returns-in_default-clause-pass g c = c.made_of.ensures.pass

pub returns-in-Err-clause-pass : goal.returns-in-Err-clause-pass
returns-in-Err-clause-pass g c = c.made_of.ensures.pass

pub returns-clause-pass : goal.returns-clause-pass
returns-clause-pass g c = c.loop-at.invariant.pass

pub returns-in_default-clause-because : goal.returns-in_default-clause-because
returns-in_default-clause-because g c = tt

pub returns-in_default-clause-made : goal.returns-in_default-clause-made
returns-in_default-clause-made g c = tt

pub returns-in_default-clause-linkable : goal.returns-in_default-clause-linkable
returns-in_default-clause-linkable g c = tt

pub returns-in-Err-clause-made : goal.returns-in-Err-clause-made
returns-in-Err-clause-made g c = tt

pub returns-in-Err-clause-linkable : goal.returns-in-Err-clause-linkable
returns-in-Err-clause-linkable g c = tt
