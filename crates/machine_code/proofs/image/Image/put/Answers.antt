use Rattle.std.proofs.Common.{◌+◌, refl}
use Rattle.machine_code.proofs.Writing.{stored, stored_from}
use Rattle.machine_code.proofs.image.Image.put.Goals as goal

pub returns-clause-wrote : goal.returns-clause-wrote
returns-clause-wrote c =
    stored c.args.self.now c.store.new.self (c.args.self.now.place + c.args.size) c.args.size c.args.reg c.args.value c.requires.size c.requires.room refl c.in_ok-store.ensures.ok c.in_ok-store.ensures.length

pub returns-clause-holds : goal.returns-clause-holds
returns-clause-holds c = λ t from. stored_from t c.args.self.now.bytes c.store.new.self c.args.value from c.in_ok-store.ensures.held
