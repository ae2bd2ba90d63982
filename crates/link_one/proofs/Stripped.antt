-- What is joined of the pieces that units keep is the text of the linked module.
use Rattle.std.proofs.Common.{ℕ, suc, List, [], ◌∷◌}
use Rattle.std.specs.List.{AllZip, flat_map}
use Rattle.ir_tree.specs.declared.module.GlobalValue.{GlobalValue}
use Rattle.ir_tree.specs.declared.operand.Symbol.{Symbol}
use Rattle.ir_print.specs.Modules.{module_text}
use Rattle.symbol_resolve.specs.Clashes.{given_text}
use Rattle.ir_tree.specs.declared.target_line.TargetLine.TheVariants.{Datalayout, Triple}
use Rattle.emit.specs.Laws.{JoinIsEmission}
use Rattle.emit.specs.Strips.{ModulePieces, StrippedIsJoin}
use Rattle.importer.specs.Brought.{joined}
use Rattle.importer.proofs.Members.{zip_append}
use Rattle.link_one.specs.LinkedLaws.{UnitsAreLinked}
use Rattle.link_one.specs.Units.{IsSettledPiece}
use Rattle.link_one.proofs.Printed.{AreAllPrinted, KeptIsLinked}
use Rattle.link_one.proofs.Linkable.{Compilation, MakingLaws}
use Rattle.link_one.proofs.Offering.{offer_enough}
use Rattle.link_one.proofs.Refining.{EmittingLaws, linked_text}
use Rattle.link_one.proofs.SortedJoins.{join_of_kept}
use Rattle.link_one.proofs.TaskUnits.{kept_printed}
use Rattle.merge_meaning.specs.Lives.{parts}

-- the pieces of all units are those of all that is compiled
all_pieces : (exports : List (List ℕ)) (symbols : List Symbol) (suffixes promoted : List (List ℕ)) (k : ℕ) (parts units : List (List GlobalValue)) (us : List ModulePieces)
    → AreAllPrinted exports symbols suffixes promoted k parts units us → AllZip (IsSettledPiece exports) (joined units) (flat_map (λ u. u.pieces) us)
all_pieces exports symbols suffixes promoted k [] [] [] printed = tt
all_pieces exports symbols suffixes promoted k [] [] (u ∷ us) printed = absurd printed
all_pieces exports symbols suffixes promoted k [] (unit ∷ units) us printed = absurd printed
all_pieces exports symbols suffixes promoted k (part ∷ parts) [] us printed = absurd printed
all_pieces exports symbols suffixes promoted k (part ∷ parts) (unit ∷ units) [] printed = absurd printed
all_pieces exports symbols suffixes promoted k (part ∷ parts) (unit ∷ units) (u ∷ us) printed =
    zip_append (IsSettledPiece exports) unit u.pieces (joined units) (flat_map (λ v. v.pieces) us) printed.0.pieces_are (all_pieces exports symbols suffixes promoted (suc k) parts units us printed.1)

kept_text : MakingLaws → EmittingLaws → JoinIsEmission → StrippedIsJoin → KeptIsLinked
kept_text making linking emission stripped exports import_limit inline_limit suffixes ms index live imports kept text verified thin named p join =
    let c : Compilation exports import_limit inline_limit suffixes ms = record { index = index; live = live; imports = imports; thin = thin; named = named; units = p.printed.units; compiled = p.printed.compiled } in
    linked_text making linking exports import_limit inline_limit suffixes ms verified c emission (flat_map (λ u. u.pieces) p.printed.printed) text
    (all_pieces exports index.symbols suffixes p.promoted 0 _ p.printed.units p.printed.printed p.printed.printed_are)
    (stripped exports p.printed.printed kept (module_text (record { datalayout = given_text Datalayout ms; triple = given_text Triple ms; globals = [] })) text
    (offer_enough making exports import_limit inline_limit suffixes ms verified c p.promoted p.promoted_are p.printed.printed p.printed.printed_are) p.printed.stripped join)

-- and so is what is joined of the units of tasks
pub units_text : MakingLaws → EmittingLaws → JoinIsEmission → StrippedIsJoin → UnitsAreLinked
units_text making linking emission stripped exports import_limit inline_limit suffixes ms index live imports units text verified thin named u join =
    let k = kept_printed making.interface exports inline_limit index.symbols suffixes imports u.promoted (parts ms index.symbols live suffixes) (making.defines ms index.symbols live suffixes) units u.are in
    kept_text making linking emission stripped exports import_limit inline_limit suffixes ms index live imports k.0 text verified thin named
    (record { promoted = u.promoted; promoted_are = u.promoted_are; printed = k.1 })
    (join_of_kept exports k.0 units (module_text (record { datalayout = given_text Datalayout ms; triple = given_text Triple ms; globals = [] })) text k.2 join)
