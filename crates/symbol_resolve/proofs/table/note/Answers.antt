use Rattle.std.proofs.Common.{◌∙◌, ap, refl}
use Rattle.indexmap.specs.IndexMap.{insert_entry}
use Rattle.symbol_resolve.specs.Listed.{noted, same_key}
use Rattle.symbol_resolve.specs.declared.facts.Facts.{Facts}
use Rattle.symbol_resolve.proofs.Tabling.{tabled_then}
use Rattle.symbol_resolve.proofs.table.note.Goals as goal

pub returns : goal.returns
returns c = λ ms t.
    tabled_then ms c.args.number c.args.name.now c.args.kind c.args.standing c.args.table.now.entries c.insert.new.self.entries c.args.name refl t
    (c.in_ok-insert.ensures.entries
    ∙ ap (λ (f : Facts). insert_entry same_key c.args.table.now.entries c.args.name f)
    (c.noted-facts.ensures ∙ ap (λ (f : Facts). noted f c.args.number c.args.kind c.args.standing) c.known.ensures))
    c.in_ok-insert.ensures.unique
