use Rattle.std.proofs.Common.{subst, sym}
use Rattle.lto_words.specs.Commands.{Means}
use Rattle.lto_words.specs.Given.{rows_in}
use Rattle.lto_words.specs.Reads.{Tells}
use Rattle.lto_words.specs.declared.request.CommandKind.{CommandKind}
use Rattle.lto_words.proofs.request.requested.Goals as goal

pub returns-in-Link : goal.returns-in-Link
returns-in-Link c = subst (λ (kind : CommandKind). Tells (Means kind (rows_in c.args.matches.now)) c.link.result) (sym c.in-Link.is) c.link.ensures

pub returns-in-Batch : goal.returns-in-Batch
returns-in-Batch c = subst (λ (kind : CommandKind). Tells (Means kind (rows_in c.args.matches.now)) c.batch.result) (sym c.in-Batch.is) c.batch.ensures

pub returns-in-Index : goal.returns-in-Index
returns-in-Index c = subst (λ (kind : CommandKind). Tells (Means kind (rows_in c.args.matches.now)) c.index.result) (sym c.in-Index.is) c.index.ensures

pub returns-in-Run : goal.returns-in-Run
returns-in-Run c = subst (λ (kind : CommandKind). Tells (Means kind (rows_in c.args.matches.now)) c.run.result) (sym c.in-Run.is) c.run.ensures

pub returns-in-Gen : goal.returns-in-Gen
returns-in-Gen c = subst (λ (kind : CommandKind). Tells (Means kind (rows_in c.args.matches.now)) c.generate.result) (sym c.in-Gen.is) c.generate.ensures
