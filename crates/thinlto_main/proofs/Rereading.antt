-- The text that is put is read as the linked module.
use Rattle.std.proofs.Common.{◌≡◌, ◌⊎◌, inl, inr, ℕ, zero, suc, Bool, true, false, if◌then◌else◌, List, [], ◌∷◌, map, All, Option, refl, sym, subst}
use Rattle.std.specs.List.{AllByRecursion as Each, AllZip}
use Rattle.std.specs.Prelude.{◌&&◌, filter}
use Rattle.std.proofs.lemmas.List.Elements.{All-head, All-tail}
use Rattle.ir_parse.specs.Reading.{Reads}
use Rattle.ir_meaning.specs.Programs.{symbol_of}
use Rattle.ir_tree.specs.Names.{AllBytes}
use Rattle.ir_tree.specs.Wholes.{GlobalSound, IsVerified}
use Rattle.ir_tree.specs.declared.function.Function.{Function}
use Rattle.ir_tree.specs.declared.function.Variable.{Variable}
use Rattle.ir_tree.specs.declared.module.GlobalValue.{GlobalValue}
use Rattle.ir_tree.specs.declared.module.GlobalValue.TheVariants as global
use Rattle.ir_tree.specs.declared.module.Module.{Module}
use Rattle.ir_tree.specs.declared.operand.Symbol.{Symbol}
use Rattle.ir_meaning.specs.Refine.{Naming}
use Rattle.symbol_resolve.specs.Clashes.{given_text, is_given, target_text}
use Rattle.ir_tree.specs.declared.target_line.TargetLine.TheVariants.{Triple}
use Rattle.merge_meaning.specs.Globals.{global_under, named_by}
use Rattle.merge_meaning.specs.Laws.{PartsAreSound}
use Rattle.merge_meaning.specs.Lives.{final_symbol, is_live, part_of, parts, parts_from}
use Rattle.merge_meaning.specs.Merged.{prevails, symbol_in}
use Rattle.merge_meaning.specs.Hosts.{getchar, putchar}
use Rattle.back_end.specs.Laws.{MadeIsInOrder}
use Rattle.back_end.specs.Made.{IsMade, MadeWhere}
use Rattle.emit.specs.Emissions.{settled}
use Rattle.emit.specs.Laws.{EmissionComesFrom}
use Rattle.importer.specs.Brought.{joined}
use Rattle.importer.proofs.Members.{Stands, all_joined, at_first, contained, either_part, filtered_from, further, mapped_from, of_each, standing, zip_back}
use Rattle.link_one.specs.Accepted.{Accepts}
use Rattle.link_one.specs.LinkedLaws.{LinkedIsVerified}
use Rattle.link_one.specs.Linked.{IsLinkedGlobal}
use Rattle.link_one.specs.Linking.{IsLinkOf}
use Rattle.link_one.proofs.Bettering.{among_sound}
use Rattle.link_one.proofs.Compiling.{AreAmong, pairs}
use Rattle.link_one.proofs.Texts.{all_verified}
use Rattle.ir_round_trip.specs.Sorts.{IsNumbered}
use Rattle.combined_index.specs.Suffixes.{suffix_of}
use Rattle.ir_round_trip.specs.Laws.{ReadIsNumbered, TextOrderIsNumbered, VerifiedIsRead}
use Rattle.ir_round_trip.specs.Numbered.{LocalsNumbered, ModuleNumbered, StringsAreBytes}
use Rattle.ir_round_trip.specs.Within.{ModuleWithin}
use Rattle.ir_round_trip.proofs.Renamed.{locals_under, strings_under}

-- what is linked of files
pub record ReadingLaws : Type 0 where
  pub verified : LinkedIsVerified
  pub in_order : MadeIsInOrder
  pub numbered : ReadIsNumbered
  pub ordered : TextOrderIsNumbered
  pub read : VerifiedIsRead
  pub sound : PartsAreSound
  pub emitted : EmissionComesFrom

-- locals follow the text, and strings are bytes
pub record IsPlain (g : GlobalValue) : Type 0 where
  pub locals : LocalsNumbered g
  pub strings : StringsAreBytes g

plain_under : (t : Naming) (g : GlobalValue) → IsPlain g → IsPlain (global_under t g)
plain_under t g p = record { locals = locals_under t g p.locals; strings = strings_under t g p.strings }

-- ---- what is read

each_stands : {X : Type 0} (P : X → Type 0) (xs : List X) (x : X) → Each P xs → Stands xs x → P x
each_stands P [] x all (i, here) = absurd (cc here)
each_stands P (y ∷ xs) x all (zero, here) = let same : y ≡ x = cc here in subst P same all.0
each_stands P (y ∷ xs) x all (suc i, here) = each_stands P xs x all.1 (i, here)

each_of : {X : Type 0} (P : X → Type 0) (xs : List X) → ((x : X) → Stands xs x → P x) → Each P xs
each_of P [] f = tt
each_of P (x ∷ xs) f = (f x (at_first x xs), each_of P xs (λ y s. f y (further x xs y s)))

module _ (laws : ReadingLaws) where
  numbered : (files : List (List ℕ)) (ms : List Module) → AllZip Accepts files ms → All AllBytes files → (m : Module) → Stands ms m → ModuleNumbered m
  numbered [] [] z all m (i, here) = absurd (cc here)
  numbered [] (n ∷ ms) z all m s = absurd z
  numbered (f ∷ files) [] z all m s = absurd z
  numbered (f ∷ files) (n ∷ ms) z all m (zero, here) =
      let same : n ≡ m = cc here in
      subst ModuleNumbered same (laws.numbered f n z.0.lines (All-head AllBytes f files all) z.0.reads)
  numbered (f ∷ files) (n ∷ ms) z all m (suc i, here) = numbered files ms z.1 (All-tail AllBytes f files all) m (i, here)

  -- ---- parts

  -- a value of a part is one of its module under other names
  part_plain : (all : List Module) (symbols : List Symbol) (live : List Bool) (suffixes : List (List ℕ)) (k : ℕ) (m : Module) → ModuleNumbered m → (g : GlobalValue)
      → Stands (part_of all symbols live suffixes k m.globals) g → IsPlain g
  part_plain all symbols live suffixes k m n g s =
      let from = mapped_from (global_under (named_by (λ u. final_symbol suffixes (symbol_in k m.globals u)))) (filter (λ h. prevails all k h && is_live symbols live (symbol_in k m.globals (symbol_of h))) m.globals) g s in
      let was = filtered_from (λ h. prevails all k h && is_live symbols live (symbol_in k m.globals (symbol_of h))) m.globals from.0 from.1 in
      subst IsPlain (sym from.2)
      (plain_under (named_by (λ u. final_symbol suffixes (symbol_in k m.globals u))) from.0
      (record { locals = each_stands LocalsNumbered m.globals from.0 n.locals was; strings = each_stands StringsAreBytes m.globals from.0 n.strings was }))

  parts_plain : (all : List Module) (symbols : List Symbol) (live : List Bool) (suffixes : List (List ℕ)) (k : ℕ) (ms : List Module) → ((m : Module) → Stands ms m → ModuleNumbered m) → (g : GlobalValue)
      → Stands (joined (parts_from all symbols live suffixes k ms)) g → IsPlain g
  parts_plain all symbols live suffixes k [] n g (i, here) = absurd (cc here)
  parts_plain all symbols live suffixes k (m ∷ ms) n g s =
      elim (either_part (part_of all symbols live suffixes k m.globals) (joined (parts_from all symbols live suffixes (suc k) ms)) g s) [
        | inl own ↦ part_plain all symbols live suffixes k m (n m (at_first m ms)) g own
        | inr later ↦ parts_plain all symbols live suffixes (suc k) ms (λ o t. n o (further m ms o t)) g later
      ]

  -- ---- what is compiled

  module _ (limit : ℕ) (all : List GlobalValue) (sound : All GlobalSound all) where
    function_plain : (bodies : List ℕ → Option Function) → AreAmong limit all bodies → (f g : Function) → Stands all (global.Function f) → IsMade bodies f g → IsNumbered f → IsNumbered g
    function_plain bodies among f g s made n = by f.optnone refl made
      where
        by : (b : Bool) → f.optnone ≡ b → MadeWhere b bodies f g → IsNumbered g
        by true e same = subst IsNumbered (sym same) n
        by false e optimised =
            let done = laws.in_order bodies f g (of_each GlobalSound all (global.Function f) sound s) (among_sound limit all bodies sound among) e made in
            subst IsNumbered (sym done.2) (laws.ordered done.0 done.1.formed)

    value_plain : (bodies : List ℕ → Option Function) → AreAmong limit all bodies → (g h : GlobalValue) → Stands all g → IsLinkedGlobal bodies g h → IsPlain g → IsPlain h
    value_plain bodies among (global.Function f) (global.Function g) s made p = record { locals = function_plain bodies among f g s made p.locals; strings = tt }
    value_plain bodies among (global.Variable v) (global.Variable w) s same p = subst (λ (u : Variable). IsPlain (global.Variable u)) (sym same) p
    value_plain bodies among (global.Function f) (global.Variable w) s made p = absurd made
    value_plain bodies among (global.Variable v) (global.Function g) s made p = absurd made

  settled_plain : (exports : List (List ℕ)) (h : GlobalValue) → IsPlain h → IsPlain (settled exports h)
  settled_plain exports (global.Variable v) p = record { locals = tt; strings = p.strings }
  settled_plain exports (global.Function f) p = record { locals = p.locals; strings = tt }

-- ---- the target lines

given_bytes : (ms : List Module) → ((m : Module) → Stands ms m → ModuleNumbered m) → AllBytes (given_text Triple ms)
given_bytes [] n = tt
given_bytes (m ∷ ms) n = by (is_given (target_text Triple m)) (given_bytes ms (λ o s. n o (further m ms o s)))
  where
    by : (b : Bool) → AllBytes (given_text Triple ms) → AllBytes (if b then target_text Triple m else given_text Triple ms)
    by true rest = (n m (at_first m ms)).triple
    by false rest = rest

-- ---- the linked module

pub host_plain : (g : GlobalValue) → (g ≡ getchar) ⊎ (g ≡ putchar) → IsPlain g
host_plain g (inl e) = subst IsPlain (sym e) (record { locals = (tt, tt); strings = tt })
host_plain g (inr e) = subst IsPlain (sym e) (record { locals = ((refl, tt), tt); strings = tt })

module _ (laws : ReadingLaws) (exports : List (List ℕ)) (import_limit inline_limit : ℕ) (files : List (List ℕ)) (text : List ℕ) (r : IsLinkOf exports import_limit inline_limit files text) (of_bytes : All AllBytes files) where
  abbrev all : List GlobalValue
  all = joined (parts r.ms r.linked.index.symbols r.linked.live (map suffix_of files))

  verified : All IsVerified r.ms
  verified = all_verified files r.ms r.accepted

  was : (m : Module) → Stands r.ms m → ModuleNumbered m
  was m s = numbered laws files r.ms r.accepted of_bytes m s

  sound : All GlobalSound all
  sound = all_joined GlobalSound (parts r.ms r.linked.index.symbols r.linked.live (map suffix_of files)) (laws.sound r.ms r.linked.index.symbols r.linked.live (map suffix_of files) verified).0

  compiled : AllZip (λ g h. IsPlain g → IsPlain h) all (joined r.linked.made.units)
  compiled =
      pairs inline_limit all r.linked.index.symbols (map suffix_of files) (λ g h. IsPlain g → IsPlain h) (value_plain laws inline_limit all sound) r.linked.imports 0
      (parts r.ms r.linked.index.symbols r.linked.live (map suffix_of files)) r.linked.made.units (λ g s. s) r.linked.made.compiled

  made_plain : (h : GlobalValue) → Stands (joined r.linked.made.units) h → IsPlain h
  made_plain h s =
      let from = zip_back (λ g k. IsPlain g → IsPlain k) all (joined r.linked.made.units) h compiled s in
      from.2 (parts_plain laws r.ms r.linked.index.symbols r.linked.live (map suffix_of files) 0 r.ms was from.0 from.1)

  linked_plain : (k : GlobalValue) → Stands r.l.globals k → IsPlain k
  linked_plain k s = elim (laws.emitted exports (joined r.linked.made.units) r.l.globals r.linked.made.emitted k (contained r.l.globals k s)) [
    | inl from ↦ subst IsPlain (sym from.2) (settled_plain laws exports from.0 (made_plain from.0 (standing (joined r.linked.made.units) from.0 from.1)))
    | inr host ↦ host_plain k host
  ]

  is_numbered : ModuleNumbered r.l
  is_numbered = record {
    strings = each_of StringsAreBytes r.l.globals (λ k s. (linked_plain k s).strings);
    locals = each_of LocalsNumbered r.l.globals (λ k s. (linked_plain k s).locals);
    triple = subst AllBytes (sym r.linked.triple) (given_bytes r.ms was);
  }

  -- within the reader's limits
  pub linked_reads : ModuleWithin r.l → (lines : List (List ℕ)) × Reads text r.l lines
  linked_reads within =
      let again = laws.read r.l (laws.verified exports import_limit inline_limit (map suffix_of files) r.ms r.l verified r.linked) is_numbered within in
      (again.0, subst (λ (t : List ℕ). Reads t r.l again.0) (sym r.is) again.1)
