-- What is compiled of all parts can be emitted, and may stand in the place of the live definitions.
use Rattle.std.proofs.Common.{◌≡◌, ℕ, Bool, List, ◌++◌, All, None, sym, subst}
use Rattle.std.specs.List.{AllZip}
use Rattle.ir_tree.specs.Formed.{Distinct}
use Rattle.ir_tree.specs.Wholes.{GlobalFormed, GlobalKnown, GlobalSound, IsVerified, symbols}
use Rattle.ir_tree.specs.declared.module.GlobalValue.{GlobalValue}
use Rattle.ir_tree.specs.declared.module.Module.{Module}
use Rattle.ir_tree.specs.declared.operand.Symbol.{Symbol}
use Rattle.ir_meaning.specs.Programs.{program_of}
use Rattle.merge_meaning.specs.Laws.{AllWhole, LiveByModule, PartsAreSound, PartsDefine}
use Rattle.merge_meaning.specs.Linked.{Improves, IsDefinition}
use Rattle.merge_meaning.specs.Lives.{live_globals, live_outside, parts}
use Rattle.merge_meaning.specs.Linkable.{AreLinkable as AreTogether}
use Rattle.back_end.specs.Laws.{MadeHasInterface, MadeIsBetter, MadeIsKnown, MadeIsSound}
use Rattle.importer.specs.Brought.{joined}
use Rattle.importer.proofs.Members.{Stands, all_joined, all_of, in_front, of_each, zip_append}
use Rattle.link_one.specs.MeaningLaws.{LiveIsKnown}
use Rattle.combined_index.specs.Combined.{Combined}
use Rattle.combined_index.specs.Finals.{NoneTaken, final_names}
use Rattle.thin_link.specs.Linking.{IsThinLink}
use Rattle.link_one.specs.Linked.{AreUnits}
use Rattle.link_one.proofs.Bettering.{CanImprove, bounded, improved_symbols, one_value, themselves}
use Rattle.link_one.proofs.Compiling.{pairs}
use Rattle.link_one.proofs.Knowing.{Follows, all_follow, value_follows}

-- what is true of what is made, of live definitions and of parts
pub record MakingLaws : Type 0 where
  pub interface : MadeHasInterface
  pub better : MadeIsBetter
  pub sounds : MadeIsSound
  pub knows : MadeIsKnown
  pub by_module : LiveByModule
  pub defines : PartsDefine
  pub sound : PartsAreSound
  pub known : LiveIsKnown

pub all_whole : (ms : List Module) → All IsVerified ms → AllWhole ms
all_whole ms verified k m here = (of_each IsVerified ms m verified (k, here)).whole

pub parts_sound_in : PartsAreSound → (ms : List Module) (ss : List Symbol) (live : List Bool) (suffixes : List (List ℕ)) → All IsVerified ms → All GlobalSound (joined (parts ms ss live suffixes))
parts_sound_in law ms ss live suffixes verified = all_joined GlobalSound (parts ms ss live suffixes) (law ms ss live suffixes verified).0

-- what a link has before it keeps of it what is reached
pub record Compilation (exports : List (List ℕ)) (import_limit inline_limit : ℕ) (suffixes : List (List ℕ)) (ms : List Module) : Type 0 where
  pub index : Combined
  pub live : List Bool
  pub imports : List (List ℕ)
  pub thin : IsThinLink ms exports import_limit index live imports
  pub named : NoneTaken (final_names suffixes index.symbols live)
  pub units : List (List GlobalValue)
  pub compiled : AreUnits inline_limit suffixes ms index.symbols live imports units

module _ (laws : MakingLaws) (exports : List (List ℕ)) (import_limit inline_limit : ℕ) (suffixes : List (List ℕ)) (ms : List Module) (verified : All IsVerified ms) (c : Compilation exports import_limit inline_limit suffixes ms) where
  abbrev pub lives : List GlobalValue
  lives = live_globals ms c.index.symbols c.live suffixes

  abbrev pub all : List GlobalValue
  all = joined (parts ms c.index.symbols c.live suffixes)

  abbrev pub outs : List GlobalValue
  outs = live_outside ms c.index.symbols c.live suffixes

  abbrev pub made : List GlobalValue
  made = joined c.units

  pub together : AreTogether lives
  together = laws.known ms exports import_limit c.index c.live c.imports suffixes (all_whole ms verified) c.thin c.named

  -- ---- the parts

  pub by_parts : lives ≡ all ++ outs
  by_parts = laws.by_module ms c.index.symbols c.live suffixes

  pub own : (g : GlobalValue) → Stands all g → Stands lives g
  own g s = subst (λ (gs : List GlobalValue). Stands gs g) (sym by_parts) (in_front all outs g s)

  pub parts_sound : All GlobalSound all
  parts_sound = parts_sound_in laws.sound ms c.index.symbols c.live suffixes verified

  pub parts_formed : All GlobalFormed all
  parts_formed = all_joined GlobalFormed (parts ms c.index.symbols c.live suffixes) (laws.sound ms c.index.symbols c.live suffixes verified).1

  parts_define : All IsDefinition all
  parts_define = all_joined IsDefinition (parts ms c.index.symbols c.live suffixes) (laws.defines ms c.index.symbols c.live suffixes)

  pub parts_known : All (GlobalKnown (symbols lives)) all
  parts_known = all_of (GlobalKnown (symbols lives)) all (λ g s. of_each (GlobalKnown (symbols lives)) lives g together.known (own g s))

  -- ---- what is made of them

  each_improves : AllZip (CanImprove (program_of lives)) all made
  each_improves =
      pairs inline_limit all c.index.symbols suffixes (CanImprove (program_of lives))
      (one_value laws.interface laws.better inline_limit all lives together.once own parts_sound) c.imports 0 (parts ms c.index.symbols c.live suffixes) c.units (λ g s. s) c.compiled

  pub improved : (bound : ℕ) × AllZip (Improves (program_of lives) bound) lives (made ++ outs)
  improved =
      let both = bounded (program_of lives) (all ++ outs) (made ++ outs) (zip_append (CanImprove (program_of lives)) all made outs outs each_improves (themselves lives outs)) in
      (both.0, subst (λ (gs : List GlobalValue). AllZip (Improves (program_of lives) both.0) gs (made ++ outs)) (sym by_parts) both.1)

  pub same_made : symbols made ≡ symbols all
  same_made =
      let both = bounded (program_of lives) all made each_improves in
      improved_symbols (program_of lives) both.0 all made both.1

  pub same_symbols : symbols (made ++ outs) ≡ symbols lives
  same_symbols = improved_symbols (program_of lives) improved.0 lives (made ++ outs) improved.1

  follow : AllZip (Follows (symbols lives)) all made
  follow =
      pairs inline_limit all c.index.symbols suffixes (Follows (symbols lives))
      (value_follows laws.interface laws.sounds laws.knows inline_limit all (symbols lives) parts_sound parts_known) c.imports 0 (parts ms c.index.symbols c.live suffixes) c.units (λ g s. s) c.compiled

  pub made_sound : All GlobalSound made
  made_sound = all_follow (symbols lives) GlobalSound GlobalSound (λ g h f _. f.sound) all made follow parts_sound

  pub made_formed : All GlobalFormed made
  made_formed = all_follow (symbols lives) GlobalFormed GlobalFormed (λ g h f p. f.formed p) all made follow parts_formed

  pub made_define : All IsDefinition made
  made_define = all_follow (symbols lives) IsDefinition IsDefinition (λ g h f p. f.definition p) all made follow parts_define

  made_known_before : All (GlobalKnown (symbols lives)) made
  made_known_before = all_follow (symbols lives) GlobalSound (GlobalKnown (symbols lives)) (λ g h f _. f.knows) all made follow parts_sound

  pub made_known : All (GlobalKnown (symbols (made ++ outs))) made
  made_known = subst (λ (ss : List Symbol). All (GlobalKnown ss) made) (sym same_symbols) made_known_before

  pub made_once : Distinct (symbols (made ++ outs))
  made_once = subst Distinct (sym same_symbols) together.once

  pub made_homeless : All (λ s. s.home ≡ None) (symbols (made ++ outs))
  made_homeless = subst (All (λ (s : Symbol). s.home ≡ None)) (sym same_symbols) together.homeless
