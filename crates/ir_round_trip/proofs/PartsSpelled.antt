-- The parts of modules that were read have values that their text tells whole.
use Rattle.std.proofs.Common.{ℕ, zero, suc, Bool, true, false, if◌then◌else◌, List, [], ◌∷◌, ◌++◌, map, Option, Some, None, append-nil, sym, subst}
use Rattle.std.specs.List.{AllByRecursion as Each, AllZip}
use Rattle.std.specs.Prelude.{◌&&◌, All, filter, slice_index_or}
use Rattle.std.proofs.lemmas.List.Elements.{All-filter, All-from_recursion, All-head, All-map, All-tail, recursion_from_All}
use Rattle.ir_meaning.specs.Programs.{symbol_of}
use Rattle.ir_tree.specs.Names.{AllBytes}
use Rattle.ir_tree.specs.Wholes.{global_symbol, symbols}
use Rattle.ir_tree.specs.declared.module.GlobalValue.{GlobalValue}
use Rattle.ir_tree.specs.declared.module.Module.{Module}
use Rattle.ir_tree.specs.declared.operand.Symbol.{Symbol}
use Rattle.merge_meaning.specs.Globals.{global_under, named_by}
use Rattle.merge_meaning.specs.Lives.{final_symbol, is_live, part_of, parts, parts_from}
use Rattle.merge_meaning.specs.Merged.{is_own, local_to, prevails, symbol_in}
use Rattle.combined_index.specs.Finals.{final_name, suffix_at}
use Rattle.combined_index.specs.Suffixes.{suffix_of}
use Rattle.ir_round_trip.specs.Laws.{ReadIsNumbered, ReadIsWithin}
use Rattle.ir_round_trip.specs.Numbered.{LocalsNumbered, StringsAreBytes}
use Rattle.ir_round_trip.specs.Renamed.{IsReadOf, NamesKeepSpelling, PartsAreSpelled, ReadIsSpelled, SpelledIsTold, SuffixedIsWritable, ValueSpelled}
use Rattle.ir_round_trip.specs.Tokens.{IsWritable}
use Rattle.ir_round_trip.specs.Within.{NameWithin, ValueWithin}

-- ---- what was read

all_spelled : (gs : List GlobalValue) → Each NameWithin (symbols gs) → Each ValueWithin gs → Each LocalsNumbered gs → Each StringsAreBytes gs → Each ValueSpelled gs
all_spelled [] name within locals strings = tt
all_spelled (g ∷ gs) name within locals strings =
    (record { name = name.0; within = within.0; locals = locals.0; strings = strings.0 }, all_spelled gs name.1 within.1 locals.1 strings.1)

pub read_spelled : ReadIsWithin → ReadIsNumbered → ReadIsSpelled
read_spelled within numbered bytes m lines b r =
    let w = within bytes m lines b r in
    let n = numbered bytes m lines b r in
    All-from_recursion ValueSpelled m.globals (all_spelled m.globals w.names w.values n.locals n.strings)

-- ---- what its text tells

pub spelled_told : SpelledIsTold
spelled_told gs verified all = record {
  verified = verified;
  numbered = record {
    strings = recursion_from_All StringsAreBytes gs (λ k d lt. (all k d lt).strings);
    locals = recursion_from_All LocalsNumbered gs (λ k d lt. (all k d lt).locals);
    triple = tt;
  };
  layout = tt;
  names = recursion_from_All NameWithin (symbols gs) (All-map NameWithin global_symbol gs (λ k d lt. (all k d lt).name));
  values = recursion_from_All ValueWithin gs (λ k d lt. (all k d lt).within);
}

-- ---- final names

module _ (suffixed : SuffixedIsWritable) (files : List (List ℕ)) where
  abbrev suffixes : List (List ℕ)
  suffixes = map suffix_of files

  behind_name : (name : List ℕ) → IsWritable name → (home : Option ℕ) → IsWritable (name ++ suffix_at suffixes home)
  behind_name name w None = subst IsWritable (sym (append-nil name)) w
  behind_name name w (Some home) = at files home
    where
      at : (fs : List (List ℕ)) (k : ℕ) → IsWritable (name ++ slice_index_or (map suffix_of fs) k [])
      at [] k = subst IsWritable (sym (append-nil name)) w
      at (f ∷ fs) zero = suffixed name f w
      at (f ∷ fs) (suc k) = at fs k

  final_writable : (k : ℕ) (gs : List GlobalValue) (s : Symbol) → NameWithin s → NameWithin (final_symbol suffixes (symbol_in k gs s))
  final_writable k gs s w = by (is_own gs s.name)
    where
      by : (b : Bool) → IsWritable (final_name suffixes (if b then local_to k s.name else s))
      by true = behind_name s.name w (Some k)
      by false = behind_name s.name w s.home

  -- ---- parts

  module _ (keeps : NamesKeepSpelling) (all : List Module) (marked : List Symbol) (live : List Bool) where
    part_spelled : (k : ℕ) (gs : List GlobalValue) → All ValueSpelled gs → All ValueSpelled (part_of all marked live suffixes k gs)
    part_spelled k gs h =
        let name = λ (s : Symbol). final_symbol suffixes (symbol_in k gs s) in
        let stays = λ (g : GlobalValue). prevails all k g && is_live marked live (symbol_in k gs (symbol_of g)) in
        let was = All-filter stays ValueSpelled gs h in
        All-map ValueSpelled (global_under (named_by name)) (filter stays gs) (λ j d lt. keeps name _ (was j d lt) (final_writable k gs _ (was j d lt).name))

    pub parts_spelled : (R : List ℕ → Module → Type 0) → ((bytes : List ℕ) (m : Module) → AllBytes bytes → R bytes m → All ValueSpelled m.globals) → (k : ℕ) (fs : List (List ℕ)) (ms : List Module)
        → All AllBytes fs → AllZip R fs ms → Each (All ValueSpelled) (parts_from all marked live suffixes k ms)
    parts_spelled R read k [] [] b z = tt
    parts_spelled R read k [] (m ∷ ms) b z = absurd z
    parts_spelled R read k (f ∷ fs) [] b z = absurd z
    parts_spelled R read k (f ∷ fs) (m ∷ ms) b z =
        (part_spelled k m.globals (read f m (All-head AllBytes f fs b) z.0), parts_spelled R read (suc k) fs ms (All-tail AllBytes f fs b) z.1)

pub parts_are_spelled : ReadIsSpelled → NamesKeepSpelling → SuffixedIsWritable → PartsAreSpelled
parts_are_spelled read keeps suffixed files ms marked live b z =
    All-from_recursion (All ValueSpelled) (parts ms marked live (map suffix_of files))
    (parts_spelled suffixed files keeps ms marked live IsReadOf (λ bytes m c r. read bytes m r.0 c r.1) 0 files ms b z)
