use Rattle.std.proofs.Common.{◌≡◌, Some, length, refl}
use Rattle.std.proofs.lemmas.Option.{slice_get_read}
use Rattle.ir_machine.specs.Memories.{block_at}
use Rattle.ir_machine.proofs.Holding.{on_err}
use Rattle.ir_machine.proofs.Origins.{gains_by, numbers_set}
use Rattle.ir_machine.proofs.memory.Memory.store_at.Goals as goal

pub returns-in_err-stored-clause-err : goal.returns-in_err-stored-clause-err
returns-in_err-stored-clause-err c =
    let here : block_at c.args.self.now c.args.position ≡ Some c.index_mut.result.now = slice_get_read c.args.self.now.blocks.items (length c.args.self.now.blocks.items) c.args.position c.index_mut.result.now refl c.requires.there c.index_mut.ensures.value in
    on_err c.from_residual.result (c.index_mut.result.now, (c.store.new.self, (record { there = here; items = refl; made = refl; number = c.store.ensures.number }, c.in_err-stored.ensures.err)))

pub returns-clause-ok : goal.returns-clause-ok
returns-clause-ok c =
    let here : block_at c.args.self.now c.args.position ≡ Some c.index_mut.result.now = slice_get_read c.args.self.now.blocks.items (length c.args.self.now.blocks.items) c.args.position c.index_mut.result.now refl c.requires.there c.index_mut.ensures.value in
    (c.index_mut.result.now, (c.store.new.self, (record { there = here; items = refl; made = refl; number = c.store.ensures.number }, c.in_ok-stored.ensures.ok)))

pub returns-clause-held : goal.returns-clause-held
returns-clause-held c =
    let here : block_at c.args.self.now c.args.position ≡ Some c.index_mut.result.now = slice_get_read c.args.self.now.blocks.items (length c.args.self.now.blocks.items) c.args.position c.index_mut.result.now refl c.requires.there c.index_mut.ensures.value in
    gains_by c.args.self.now.blocks.items c.args.position c.index_mut.result.now c.store.new.self c.args.value here c.store.ensures.held

pub returns-in_err-stored-clause-held : goal.returns-in_err-stored-clause-held
returns-in_err-stored-clause-held c =
    let here : block_at c.args.self.now c.args.position ≡ Some c.index_mut.result.now = slice_get_read c.args.self.now.blocks.items (length c.args.self.now.blocks.items) c.args.position c.index_mut.result.now refl c.requires.there c.index_mut.ensures.value in
    gains_by c.args.self.now.blocks.items c.args.position c.index_mut.result.now c.store.new.self c.args.value here c.store.ensures.held

pub returns-clause-numbers : goal.returns-clause-numbers
returns-clause-numbers c =
    let here : block_at c.args.self.now c.args.position ≡ Some c.index_mut.result.now = slice_get_read c.args.self.now.blocks.items (length c.args.self.now.blocks.items) c.args.position c.index_mut.result.now refl c.requires.there c.index_mut.ensures.value in
    numbers_set c.args.self.now.blocks.items c.args.position c.index_mut.result.now c.store.new.self here c.store.ensures.number

pub returns-in_err-stored-clause-numbers : goal.returns-in_err-stored-clause-numbers
returns-in_err-stored-clause-numbers c =
    let here : block_at c.args.self.now c.args.position ≡ Some c.index_mut.result.now = slice_get_read c.args.self.now.blocks.items (length c.args.self.now.blocks.items) c.args.position c.index_mut.result.now refl c.requires.there c.index_mut.ensures.value in
    numbers_set c.args.self.now.blocks.items c.args.position c.index_mut.result.now c.store.new.self here c.store.ensures.number
