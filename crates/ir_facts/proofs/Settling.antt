-- Free choices settled in their places: definitions, types and control flow stay, and no row rests on a free choice.
use Rattle.std.proofs.Common.{◌≡◌, ◌<◌, ◌||◌, ℕ, zero, suc, Bool, true, false, List, [], ◌∷◌, ◌++◌, inl, inr, Option, Some, None, map, option_map, take, refl, sym, ◌∙◌, ap, subst}
use Rattle.std.specs.Prelude.{slice_get, flat_map, filter_map, if◌then◌else◌, nat_eq}
use Rattle.std.specs.List.{cons_option}
use Rattle.std.proofs.lemmas.List.{length-map}
use Rattle.std.proofs.lemmas.Option.{slice_get-map}
use Rattle.lto_sets.specs.Sets.{contains}
use Rattle.ir_tree.specs.Flow.{Among, AvailableAt, Equations, IsMarked, Path, availability, defined_before, defined_in, definitions, edges, entry_row, holds, leading, leading_to, line_count, locals, parameters, phi_locals, repeated, results, room, successors}
use Rattle.ir_tree.specs.Formed.{numbers}
use Rattle.ir_tree.specs.Rules.{Typing, block_typings, line_typing, place, typings}
use Rattle.ir_tree.specs.declared.block.Block.{Block}
use Rattle.ir_tree.specs.declared.function.Function.{Function}
use Rattle.ir_tree.specs.declared.instr.Line.{Line}
use Rattle.ir_tree.specs.declared.operand.Reg.{Reg}
use Rattle.ir_edit.specs.Numbered.{line_numbers, local_number, phi_numbers}
use Rattle.ir_flow.specs.OfFunction.{IsGraphOf, IsReach}
use Rattle.fact_sources.specs.Apart.{IsApart, given_apart, given_where, is_listed}
use Rattle.ir_facts.specs.Settled.{IsSettled, LinesFirm, settled, settled_block, settled_line}
use Rattle.ir_facts.specs.Steps.{AllReached}
use Rattle.ir_facts.proofs.Chosen.{settled_firm, type_settled}
use Rattle.ir_flow.proofs.Reaching.{graph_stays, reach_stays}

-- ---- lines and blocks

results_settled : (ls : List Line) → results (map settled_line ls) ≡ results ls
results_settled [] = refl
results_settled (l ∷ ls) = ap (λ (xs : List ℕ). cons_option l.local xs) (results_settled ls)

front_settled : (k : ℕ) (ls : List Line) → results (take k (map settled_line ls)) ≡ results (take k ls)
front_settled zero ls = refl
front_settled (suc k) [] = refl
front_settled (suc k) (l ∷ ls) = ap (λ (xs : List ℕ). cons_option l.local xs) (front_settled k ls)

definitions_settled : (b : Block) → definitions (settled_block b) ≡ definitions b
definitions_settled b = ap (λ (xs : List ℕ). phi_locals b ++ xs) (results_settled b.lines)

blocks_settled : (bs : List Block) → flat_map definitions (map settled_block bs) ≡ flat_map definitions bs
blocks_settled [] = refl
blocks_settled (b ∷ bs) = λ i. definitions_settled b i ++ blocks_settled bs i

numbers_from : (bs : List Block) → map (λ b. b.number) (map settled_block bs) ≡ map (λ b. b.number) bs
numbers_from [] = refl
numbers_from (b ∷ bs) = ap (λ (xs : List ℕ). b.number ∷ xs) (numbers_from bs)

leading_settled : (n p : ℕ) (bs : List Block) → leading n p (map settled_block bs) ≡ leading n p bs
leading_settled n p [] = refl
leading_settled n p (b ∷ bs) = ap (λ (xs : List ℕ). repeated p n (successors b.end) ++ xs) (leading_settled n (suc p) bs)

leading_to_settled : (bs : List Block) (o : Option Block) → leading_to (map settled_block bs) (option_map settled_block o) ≡ leading_to bs o
leading_to_settled bs None = refl
leading_to_settled bs (Some b) = leading_settled b.number 0 bs

pub place_settled : (bs : List Block) (n : ℕ) → place (map settled_block bs) n ≡ place bs n
place_settled [] n = refl
place_settled (b ∷ bs) n = λ i. if nat_eq b.number n then zero else suc (place_settled bs n i)

pub block_was : (bs : List Block) (p : ℕ) (b' : Block) → slice_get (map settled_block bs) p ≡ Some b' → (b : Block) × (slice_get bs p ≡ Some b) × (settled_block b ≡ b')
block_was [] p b' e = absurd (cc e)
block_was (b ∷ bs) zero b' e = (b, refl, cc e)
block_was (b ∷ bs) (suc p) b' e = block_was bs p b' e

-- ---- types

line_types_settled : (ls : List Line) → filter_map line_typing (map settled_line ls) ≡ filter_map line_typing ls
line_types_settled [] = refl
line_types_settled (l ∷ ls) =
    ap (λ (r : Option Reg). cons_option (option_map (λ (x : ℕ). let t : Typing = (x, r) in t) l.local) (filter_map line_typing (map settled_line ls))) (type_settled l.instr)
    ∙ ap (λ (ts : List Typing). cons_option (line_typing l) ts) (line_types_settled ls)

block_types_settled : (bs : List Block) → flat_map block_typings (map settled_block bs) ≡ flat_map block_typings bs
block_types_settled [] = refl
block_types_settled (b ∷ bs) = λ i. (map {B = Typing} (λ p. (p.local, Some p.reg)) b.phis ++ line_types_settled b.lines i) ++ block_types_settled bs i

given_lines : (ls : List Line) → line_numbers (map settled_line ls) ≡ line_numbers ls
given_lines [] = refl
given_lines (l ∷ ls) = ap (λ (xs : List ℕ). local_number l.local ++ xs) (given_lines ls)

given_settled : (t : Bool) (b : Block) → given_where t (settled_block b) ≡ given_where t b
unfolding given_where
given_settled true b = refl
given_settled false b = ap (λ (xs : List ℕ). phi_numbers b.phis ++ xs) (given_lines b.lines)

given_apart_settled : (inside : ℕ → Bool) (p : ℕ) (bs : List Block) → given_apart inside p (map settled_block bs) ≡ given_apart inside p bs
given_apart_settled inside p [] = refl
given_apart_settled inside p (b ∷ bs) = λ i. given_settled (inside p) b i ++ given_apart_settled inside (suc p) bs i

-- ---- functions

module _ (f : Function) where
  block_there : (p : ℕ) → slice_get (settled f).blocks p ≡ option_map settled_block (slice_get f.blocks p)
  block_there p = slice_get-map settled_block f.blocks p

  pub edges_settled : (p : ℕ) → edges (settled f) p ≡ edges f p
  edges_settled p = ap (leading_to (map settled_block f.blocks)) (block_there p) ∙ leading_to_settled f.blocks (slice_get f.blocks p)

  pub locals_settled : locals (settled f) ≡ locals f
  locals_settled = ap (λ (xs : List ℕ). parameters f ++ xs) (blocks_settled f.blocks)

  pub numbers_settled : numbers (settled f) ≡ numbers f
  numbers_settled = numbers_from f.blocks

  pub typings_settled : typings (settled f) ≡ typings f
  typings_settled = ap (λ (ts : List Typing). map {B = Typing} (λ p. (p.local, Some p.reg)) f.params ++ ts) (block_types_settled f.blocks)

  -- ---- availability

  defined_by : (o : Option Block) (x : ℕ) → defined_in (option_map settled_block o) x ≡ defined_in o x
  defined_by None x = refl
  defined_by (Some b) x = ap (λ (xs : List ℕ). holds xs x) (definitions_settled b)

  availability_settled : availability (settled f) ≡ availability f
  availability_settled = λ i. record {
    blocks = length-map f.blocks settled_block i;
    size = room (locals_settled i);
    edges = λ b. edges_settled b i;
    out = λ b row x. row x || (ap (λ (o : Option Block). defined_in o x) (block_there b) ∙ defined_by (slice_get f.blocks b) x) i;
    fixed = λ b. entry_row b (parameters f);
  }

  before_by : (o : Option Block) (k x : ℕ) → defined_before (option_map settled_block o) k x ≡ defined_before o k x
  before_by None k x = refl
  before_by (Some b) k x = ap (λ (xs : List ℕ). holds (phi_locals b ++ xs) x) (front_settled k b.lines)

  counted_by : (o : Option Block) → line_count (option_map settled_block o) ≡ line_count o
  counted_by None = refl
  counted_by (Some b) = length-map b.lines settled_line

  pub count_settled : (p : ℕ) → line_count (slice_get (settled f).blocks p) ≡ line_count (slice_get f.blocks p)
  count_settled p = ap line_count (block_there p) ∙ counted_by (slice_get f.blocks p)

  pub available_settled : (p k x : ℕ) → AvailableAt f p k x → AvailableAt (settled f) p k x
  available_settled p k x (inl there) = inl (subst (λ (e : Equations). IsMarked e p x) (sym availability_settled) there)
  available_settled p k x (inr given) = inr (ap (λ (o : Option Block). defined_before o k x) (block_there p) ∙ before_by (slice_get f.blocks p) k x ∙ given)

  -- ---- reached blocks

  path_then : (ps : List ℕ) (b : ℕ) → Path f ps b → Path (settled f) ps b
  path_then [] b path = (path.0, subst (λ (n : ℕ). b < n) (sym (length-map f.blocks settled_block)) path.1)
  path_then (p ∷ ps) b path = (subst (Among p) (sym (edges_settled b)) path.0, path_then ps p path.1)

  pub reached_settled : AllReached f → AllReached (settled f)
  reached_settled all b lt =
      let way = all b (subst (λ (n : ℕ). b < n) (length-map f.blocks settled_block) lt) in
      (way.0, path_then way.0 b way.1)

  pub reach_settled : (s : List Bool) → IsReach f s → IsReach (settled f) s
  reach_settled s reach = reach_stays f (settled f) s (length-map f.blocks settled_block) edges_settled reach

  pub graph_settled : (graph : List (List ℕ)) → IsGraphOf f graph → IsGraphOf (settled f) graph
  graph_settled graph is = graph_stays f (settled f) graph (length-map f.blocks settled_block) edges_settled is

  pub apart_settled : (among : ℕ → Bool) → IsApart f among → IsApart (settled f) among
  apart_settled among a = record {
    reached = a.reached;
    reach = reach_settled a.reached a.reach;
    is = λ x. a.is x ∙ ap (is_listed x) (sym (given_apart_settled (contains a.reached) 0 f.blocks));
  }

  -- ---- rows

  lines_firm : (ls : List Line) → LinesFirm (map settled_line ls)
  lines_firm [] = tt
  lines_firm (l ∷ ls) = (settled_firm l.instr, lines_firm ls)

  pub is_settled : IsSettled (settled f)
  is_settled p b' found =
      let before = block_was f.blocks p b' found in
      subst (λ (b : Block). LinesFirm b.lines) before.2 (lines_firm before.0.lines)
