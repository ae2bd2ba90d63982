use Rattle.std.proofs.Common.{◌<◌, length, arith}
use Rattle.link_one.proofs.Zipping.{zip_next}
use Rattle.lto_words.specs.Fetching.{IsShort}
use Rattle.thinlto_main.specs.Modules.{IsRead}
use Rattle.thinlto_main.proofs.Reading.{at_place, first_because}
use Rattle.thinlto_main.proofs.modules.read_all.Goals as goal

pub read_one-requires : goal.read_one-requires
read_one-requires c =
    let within : c.loop-at.at < length c.args.given.now = omega (arith, c.loop-at-test.true, c.requires.each) in
    record { short = at_place IsShort c.args.given.now c.loop-at.at c.index-given-at.result c.requires.short within c.index-given-at.is }

pub returns-in-Err-clause-because : goal.returns-in-Err-clause-because
returns-in-Err-clause-because c =
    first_because c.args.names.now c.args.given.now c.loop-at.modules c.loop-at.at c.index-names-at.result c.index-given-at.result c.requires.each c.loop-at-test.true c.index-names-at.is c.index-given-at.is
    c.loop-at.invariant c.in-Err.why c.in-Err.ensures.because

pub loop-at-preserved : goal.loop-at-preserved
loop-at-preserved c =
    let within : c.loop-at.at < length c.args.given.now = omega (arith, c.loop-at-test.true, c.requires.each) in
    zip_next IsRead c.args.given.now c.loop-at.at c.index-given-at.result within c.index-given-at.is c.loop-at.modules c.push.new.self c.in-Ok.module c.loop-at.invariant c.in-Ok.ensures.read c.in-Ok-push.ensures.ok

pub returns-in_default-clause-because : goal.returns-in_default-clause-because
returns-in_default-clause-because c = tt

pub returns-in_default-clause-read : goal.returns-in_default-clause-read
returns-in_default-clause-read c = tt

pub returns-in-Err-clause-read : goal.returns-in-Err-clause-read
returns-in-Err-clause-read c = tt
