-- Phis, blocks and definitions, read as calls read them.
use Rattle.std.proofs.Common.{◌≡◌, ℕ, List, [], ◌∷◌, ◌++◌, Result, Ok, Err, refl, sym, ap, ◌∙◌, append_assoc}
use Rattle.ir_lex.specs.declared.token_kind.TokenKind.TheVariants as kinds
use Rattle.ir_lex.specs.Tok.{Tok}
use Rattle.ir_tree.specs.declared.operand.Reg.{Reg}
use Rattle.ir_parse_parts.specs.Alphabet.{among}
use Rattle.ir_parse_parts.specs.declared.fault.Fault.{Fault}
use Rattle.ir_parse_parts.specs.Readers.{Reader, done, follow, ◌>>=◌}
use Rattle.ir_parse_heads.specs.AttributesAt.{definition_attributes_at}
use Rattle.ir_parse_parts.specs.Classes.{tokens, the_at}
use Rattle.ir_parse_heads.specs.declared.attributes.Kept.{Kept}
use Rattle.ir_parse_heads.specs.declared.function_heads.Role.TheVariants as roles
use Rattle.ir_parse_parts.specs.declared.raw.Block.{Block}
use Rattle.ir_parse_parts.specs.declared.raw.FunctionHeader.{FunctionHeader}
use Rattle.ir_parse_parts.specs.declared.raw.Instr.TheVariants as instrs
use Rattle.ir_parse_parts.specs.declared.raw.Item.{Item}
use Rattle.ir_parse_parts.specs.declared.raw.Item.TheVariants.{Definition}
use Rattle.ir_parse_heads.specs.FunctionHeadsAt.{head_at}
use Rattle.ir_parse_operands.specs.Adding.{pushed_at}
use Rattle.ir_parse_operands.proofs.Grouping.{grouped}
use Rattle.ir_parse_bodies.specs.Adding.{added_at, joined_at}
use Rattle.ir_parse_bodies.specs.Blocks.{LABEL, FURTHER_BLOCKS, INSTRUCTIONS, with_kept}
use Rattle.ir_parse_bodies.specs.BlocksAt.{block_at, block_behind_at, blocks_at, blocks_behind_at, braced_at, defined_at, definition_at, further_blocks_at, heading_at, label_at, maybe_label_at}
use Rattle.ir_parse_bodies.specs.PhisAt.{incoming_at, entries_at, all_entries_at, phi_of_at}
use Rattle.ir_parse_bodies.proofs.Additions.{optional_then}

pub phi_of_is : (r : Reg) (ts : List Tok) → phi_of_at r ts ≡ follow (all_entries_at r ts) (λ is. done (instrs.Phi r is))
unfolding phi_of_at
phi_of_is r ts = grouped (entries_at r) (λ is. done (instrs.Phi r is)) (incoming_at r ts)

pub block_is : (room : ℕ) (ts : List Tok) → block_at room ts ≡ (maybe_label_at >>= block_behind_at room) ts
unfolding block_at
block_is room ts = sym (optional_then (among tokens LABEL) label_at (block_behind_at room) ts)

abbrev pub behind_first : ℕ → List Block × ℕ → Reader Tok (List Block)
behind_first further x = joined_at x.0 (further_blocks_at further x.1)

pub blocks_is : (front : List Block) (further instructions : ℕ) (ts : List Tok) → joined_at front (blocks_at further instructions) ts ≡ follow (added_at front (block_at instructions) ts) (behind_first further)
unfolding blocks_at blocks_behind_at
blocks_is front further instructions ts = by_first (block_at instructions ts)
  where
    by_others : (b : Block) (r : Result (List Block × List Tok) Fault) → follow (follow r (λ more. done (b ∷ more))) (λ more. done (front ++ more)) ≡ follow r (λ more. done ((front ++ b ∷ []) ++ more))
    by_others b (Ok x) = ap (λ (all : List Block). Ok (all, x.1)) (sym (append_assoc front (b ∷ []) x.0))
    by_others b (Err e) = refl

    by_first : (r : Result ((Block × ℕ) × List Tok) Fault)
        → follow (follow r (λ first. further_blocks_at further first.1 >>= λ more. done (first.0 ∷ more))) (λ more. done (front ++ more)) ≡ follow {B = List Block} (follow {B = List Block × ℕ} r (λ x. done (front ++ x.0 ∷ [], x.1))) (behind_first further)
    by_first (Ok x) = by_others x.0.0 (further_blocks_at further x.0.1 x.1)
    by_first (Err e) = refl

pub braced_is : (front : List Block) (ts : List Tok) → joined_at front braced_at ts ≡ follow (the_at kinds.OpenBrace ts) (λ _. joined_at front (blocks_at FURTHER_BLOCKS INSTRUCTIONS) >>= λ bs. the_at kinds.CloseBrace >>= λ _. done bs)
braced_is front ts = by_open (the_at kinds.OpenBrace ts)
  where
    by_close : (bs : List Block) (r : Result (Unit {0} × List Tok) Fault) → follow (follow r (λ _. done bs)) (λ bs. done (front ++ bs)) ≡ follow r (λ _. done (front ++ bs))
    by_close bs (Ok x) = refl
    by_close bs (Err e) = refl

    by_blocks : (r : Result (List Block × List Tok) Fault) → follow (follow r (λ bs. the_at kinds.CloseBrace >>= λ _. done bs)) (λ bs. done (front ++ bs)) ≡ follow (follow r (λ bs. done (front ++ bs))) (λ bs. the_at kinds.CloseBrace >>= λ _. done bs)
    by_blocks (Ok x) = by_close x.0 (the_at kinds.CloseBrace x.1)
    by_blocks (Err e) = refl

    by_open : (r : Result (Unit {0} × List Tok) Fault)
        → follow (follow r (λ _. blocks_at FURTHER_BLOCKS INSTRUCTIONS >>= λ bs. the_at kinds.CloseBrace >>= λ _. done bs)) (λ bs. done (front ++ bs)) ≡ follow r (λ _. joined_at front (blocks_at FURTHER_BLOCKS INSTRUCTIONS) >>= λ bs. the_at kinds.CloseBrace >>= λ _. done bs)
    by_open (Ok x) = by_blocks (blocks_at FURTHER_BLOCKS INSTRUCTIONS x.1)
    by_open (Err e) = refl

abbrev pub defined_by : FunctionHeader → Reader Tok Item
defined_by h = braced_at >>= λ bs. done (Definition h bs)

defined_is : (h : FunctionHeader) (ts : List Tok) → defined_at h ts ≡ defined_by h ts
defined_is h ts = by_open (the_at kinds.OpenBrace ts)
  where
    by_close : (bs : List Block) (r : Result (Unit {0} × List Tok) Fault) → follow r (λ _. done (Definition h bs)) ≡ follow (follow r (λ _. done bs)) (λ bs. done (Definition h bs))
    by_close bs (Ok x) = refl
    by_close bs (Err e) = refl

    by_blocks : (r : Result (List Block × List Tok) Fault) → follow r (λ bs. the_at kinds.CloseBrace >>= λ _. done (Definition h bs)) ≡ follow (follow r (λ bs. the_at kinds.CloseBrace >>= λ _. done bs)) (λ bs. done (Definition h bs))
    by_blocks (Ok x) = by_close x.0 (the_at kinds.CloseBrace x.1)
    by_blocks (Err e) = refl

    by_open : (r : Result (Unit {0} × List Tok) Fault)
        → follow r (λ _. blocks_at FURTHER_BLOCKS INSTRUCTIONS >>= λ bs. the_at kinds.CloseBrace >>= λ _. done (Definition h bs)) ≡ follow (follow r (λ _. blocks_at FURTHER_BLOCKS INSTRUCTIONS >>= λ bs. the_at kinds.CloseBrace >>= λ _. done bs)) (λ bs. done (Definition h bs))
    by_open (Ok x) = by_blocks (blocks_at FURTHER_BLOCKS INSTRUCTIONS x.1)
    by_open (Err e) = refl

pub definition_is : (room : ℕ) (ts : List Tok) → definition_at room ts ≡ follow (heading_at room ts) defined_by
unfolding definition_at
definition_is room ts = by_define (the_at kinds.Define ts)
  where
    by_kept : (h : FunctionHeader) (r : Result (Kept × List Tok) Fault) → follow r (λ k. defined_at (with_kept h k)) ≡ follow (follow r (λ k. done (with_kept h k))) defined_by
    by_kept h (Ok x) = defined_is (with_kept h x.0) x.1
    by_kept h (Err e) = refl

    by_head : (r : Result (FunctionHeader × List Tok) Fault) → follow r (λ h. definition_attributes_at >>= λ k. defined_at (with_kept h k)) ≡ follow (follow r (λ h. definition_attributes_at >>= λ k. done (with_kept h k))) defined_by
    by_head (Ok x) = by_kept x.0 (definition_attributes_at x.1)
    by_head (Err e) = refl

    by_define : (r : Result (Unit {0} × List Tok) Fault)
        → follow r (λ _. head_at roles.Definition room >>= λ h. definition_attributes_at >>= λ k. defined_at (with_kept h k)) ≡ follow (follow r (λ _. head_at roles.Definition room >>= λ h. definition_attributes_at >>= λ k. done (with_kept h k))) defined_by
    by_define (Ok x) = by_head (head_at roles.Definition room x.1)
    by_define (Err e) = refl

-- ---- put behind the items before

abbrev put_behind : List Item → Item → Reader Tok (List Item)
put_behind front x = done (front ++ x ∷ [])

pub pushed_defined : (front : List Item) (h : FunctionHeader) (ts : List Tok) → pushed_at front (defined_at h) ts ≡ follow (joined_at [] braced_at ts) (λ bs. done (front ++ Definition h bs ∷ []))
pushed_defined front h ts = ap (λ (r : Result (Item × List Tok) Fault). follow r (put_behind front)) (defined_is h ts) ∙ by_blocks (braced_at ts)
  where
    by_blocks : (r : Result (List Block × List Tok) Fault) → follow (follow r (λ bs. done (Definition h bs))) (put_behind front) ≡ follow (follow r (λ bs. done ([] ++ bs))) (λ bs. done (front ++ Definition h bs ∷ []))
    by_blocks (Ok x) = refl
    by_blocks (Err e) = refl

pub pushed_definition : (front : List Item) (room : ℕ) (ts : List Tok) → pushed_at front (definition_at room) ts ≡ follow (heading_at room ts) (λ h. pushed_at front (defined_at h))
pushed_definition front room ts = ap (λ (r : Result (Item × List Tok) Fault). follow r (put_behind front)) (definition_is room ts) ∙ by_head (heading_at room ts)
  where
    by_head : (r : Result (FunctionHeader × List Tok) Fault) → follow (follow r defined_by) (put_behind front) ≡ follow r (λ h. pushed_at front (defined_at h))
    by_head (Ok x) = ap (λ (r : Result (Item × List Tok) Fault). follow r (put_behind front)) (sym (defined_is x.0 x.1))
    by_head (Err e) = refl
