-- Functions whose names resolve are formed.
use Rattle.std.proofs.Common.{◌≡◌, ℕ, ◌+◌, Bool, true, List, [], ◌∷◌, ◌++◌, length, Ok, refl, sym, ◌∙◌, ap, subst, arith}
use Rattle.std.specs.Prelude.{slice_get}
use Rattle.std.specs.List.{AllByRecursion as Each}
use Rattle.std.proofs.lemmas.List.Elements.{All-from_recursion, recursion_from_All}
use Rattle.ir_parse_parts.specs.declared.raw.Block as raw_block
use Rattle.ir_parse_parts.specs.declared.raw.FunctionHeader.{FunctionHeader}
use Rattle.ir_parse_parts.specs.declared.raw.Param as raw_param
use Rattle.ir_tree.specs.Flow.{holds, locals}
use Rattle.ir_tree.specs.Formed.{Distinct, Formed, IsBlock, IsLocal, IsReg, numbers}
use Rattle.ir_tree.specs.declared.block.Block as tree_block
use Rattle.ir_tree.specs.declared.function.Function.{Function}
use Rattle.ir_parse_names.specs.declared.locals.Sort.TheVariants.{Value, Block}
use Rattle.ir_parse_values.specs.Blocks.{blocks_in, blocks_of, function_in, params_from}
use Rattle.ir_parse_names.specs.Locals.{LocalTable}
use Rattle.ir_parse_names.specs.Symbols.{symbol_of}
use Rattle.ir_parse_names.specs.Types.{Types}
use Rattle.ir_parse.specs.Resolved.{DefinitionsDiffer, FunctionsAreFormed}
use Rattle.ir_parse.specs.Written.{BlockWritten, IsWritten, TypesWritten}
use Rattle.ir_parse.proofs.Gives.{Gives, gives, bind}
use Rattle.ir_parse.proofs.ResolvedItems.{blocks_formed, items_formed}
use Rattle.ir_parse.proofs.Numbering.{ArePlaced, HasSorts, blocks_placed, known_sorts, numbers_placed, text_sorts, values_placed}
use Rattle.ir_parse.proofs.Positions.{among, places_differ, positions}
use Rattle.ir_parse.proofs.Uses.{IsPlace}

-- ---- blocks with what is known

record Resolved (types : Types) (params : List raw_param.Param) (blocks : List raw_block.Block) (bs : List tree_block.Block) : Type 0 where
  known : LocalTable
  sorts : HasSorts (text_sorts params blocks) known
  are : blocks_in types known (length params) blocks ≡ Ok bs

resolves : (types : Types) (params : List raw_param.Param) (blocks : List raw_block.Block) → Gives (blocks_of types params blocks) (Resolved types params blocks)
resolves types params blocks =
    bind (HasSorts (text_sorts params blocks)) (Resolved types params blocks) _ _ (known_sorts params blocks) (λ known e.
    record { given = λ bs is. record { known = known; sorts = e; are = is } })

placed : (types : Types) (params : List raw_param.Param) (blocks : List raw_block.Block) (bs : List tree_block.Block) → Resolved types params blocks bs → ArePlaced (length params) blocks bs
placed types params blocks bs r = (blocks_placed types r.known (length params) blocks).given bs r.are

-- ---- the function of these blocks

abbrev made : FunctionHeader → Bool → Bool → List tree_block.Block → Function
made head noinline optnone bs =
    record { symbol = symbol_of head.name; linkage = head.linkage; result = head.result; params = params_from 0 head.params; noinline = noinline; optnone = optnone; blocks = bs }

params_formed : (n : ℕ) (ps : List raw_param.Param) → Each (λ p. IsReg p.reg) ps → Each (λ p. IsReg p.reg) (params_from n ps)
params_formed n [] h = tt
params_formed n (p ∷ ps) h = (h.0, params_formed (n + 1) ps h.1)

-- no block comes from nothing
empty_before : (n : ℕ) (blocks : List raw_block.Block) (bs : List tree_block.Block) → ArePlaced n blocks bs → bs ≡ [] → blocks ≡ []
empty_before n [] bs h e = refl
empty_before n (b ∷ blocks) [] h e = let none : [] ≡ n ∷ _ = h.numbers in absurd cc
empty_before n (b ∷ blocks) (t ∷ ts) h e = absurd cc

module _ (types : Types) (head : FunctionHeader) (blocks : List raw_block.Block) (noinline optnone : Bool) (bs : List tree_block.Block) (r : Resolved types head.params blocks bs) where
  abbrev f : Function
  f = made head noinline optnone bs

  are_placed : ArePlaced (length head.params) blocks bs
  are_placed = placed types head.params blocks bs r

  the_locals : locals f ≡ positions Value 0 (text_sorts head.params blocks)
  the_locals = values_placed head.params blocks bs are_placed

  the_numbers : numbers f ≡ positions Block 0 (text_sorts head.params blocks)
  the_numbers = numbers_placed head.params blocks bs are_placed

  differ : Distinct (locals f ++ numbers f)
  differ =
      subst (λ (ns : List ℕ). Distinct (ns ++ numbers f)) (sym the_locals)
      (subst (λ (ns : List ℕ). Distinct (positions Value 0 (text_sorts head.params blocks) ++ ns)) (sym the_numbers) (places_differ 0 (text_sorts head.params blocks)))

  value_there : (n : ℕ) → IsPlace r.known Value n → IsLocal f n
  value_there n e =
      subst (λ (ns : List ℕ). holds ns n ≡ true) (sym the_locals)
      (subst (λ (m : ℕ). holds (positions Value 0 (text_sorts head.params blocks)) m ≡ true) (omega arith) (among Value 0 (text_sorts head.params blocks) n (ap (λ ss. slice_get ss n) (sym r.sorts) ∙ e)))

  block_there : (n : ℕ) → IsPlace r.known Block n → IsBlock f n
  block_there n e =
      subst (λ (ns : List ℕ). holds ns n ≡ true) (sym the_numbers)
      (subst (λ (m : ℕ). holds (positions Block 0 (text_sorts head.params blocks)) m ≡ true) (omega arith) (among Block 0 (text_sorts head.params blocks) n (ap (λ ss. slice_get ss n) (sym r.sorts) ∙ e)))

  formed : TypesWritten types → IsWritten head blocks noinline optnone → Formed f
  formed are h = record {
    result = h.result;
    params = All-from_recursion (λ p. IsReg p.reg) (params_from 0 head.params) (params_formed 0 head.params (recursion_from_All (λ p. IsReg p.reg) head.params h.params));
    once = differ;
    items = items_formed f 0 bs ((blocks_formed types are r.known f value_there block_there (length head.params) blocks (recursion_from_All BlockWritten blocks h.blocks)).given bs r.are);
    declared = λ e. h.declared (empty_before (length head.params) blocks bs are_placed e);
  }

-- ---- the laws

pub definitions_apart : DefinitionsDiffer
unfolding function_in
definitions_apart types head blocks noinline optnone f e =
    (bind (Resolved types head.params blocks) (λ g. Distinct (locals g ++ numbers g)) (blocks_of types head.params blocks) (λ bs. Ok (made head noinline optnone bs)) (resolves types head.params blocks)
    (λ bs r. gives (λ g. Distinct (locals g ++ numbers g)) (made head noinline optnone bs) (differ types head blocks noinline optnone bs r))).given f e

pub functions_formed : FunctionsAreFormed
unfolding function_in
functions_formed types head blocks noinline optnone f are h e =
    (bind (Resolved types head.params blocks) Formed (blocks_of types head.params blocks) (λ bs. Ok (made head noinline optnone bs)) (resolves types head.params blocks)
    (λ bs r. gives Formed (made head noinline optnone bs) (formed types head blocks noinline optnone bs r are h))).given f e
