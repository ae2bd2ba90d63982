use Rattle.std.proofs.Common.{Option, ap, sym, ◌∙◌}
use Rattle.ir_machine.specs.declared.scalar.Base.{Base}
use Rattle.machine_code.specs.MemoryAddresses.{base_in, key_symbol}
use Rattle.machine_code.specs.Tables.{noted}
use Rattle.machine_code.proofs.Keys.{key_of}
use Rattle.machine_code.proofs.bases.Bases.note.Goals as goal

pub returns : goal.returns
returns c = λ s.
    c.in_ok-insert.ensures.updates.0 (key_of s)
    ∙ ap (λ (b : Option Base). noted (key_symbol c.args.key) b s (base_in c.args.self.now s)) (sym c.in-Some.is)
