-- Blocks and lines that are clear, as code asks.
use Rattle.std.proofs.Common.{◌≡◌, ℕ, suc, Bool, true, false, ◌||◌, List, ◌∷◌, ◌++◌, append_assoc, Option, sym, ◌∙◌, ap}
use Rattle.std.specs.Prelude.{◌&&◌, not}
use Rattle.ir_tree.specs.declared.block.Block.{Block}
use Rattle.ir_tree.specs.declared.instr.Line.{Line}
use Rattle.ir_meaning.specs.Facts.{is_phi}
use Rattle.ir_facts.specs.Candidates.{block_candidates, phi_candidates}
use Rattle.fact_sources.specs.Apart.{defined}
use Rattle.ir_facts.specs.Clear.{all_over, any_among, block_clear, inner_keys, is_over, keys_among, lines_clear, phis_barred, with_given}
use Rattle.fact_sources.specs.Membership.{beside}
use Rattle.fact_sources.specs.Naming.{end_names, instr_names}

-- one line behind the others
pub line_clear : (bar own front new : ℕ → Bool) (l : Line) (rest more : List Line) → more ≡ l ∷ rest → instr_names bar l.instr ≡ false → instr_names (beside own front) l.instr ≡ false
    → ((x : ℕ) → new x ≡ with_given front l.local x) → lines_clear bar own new rest ≡ lines_clear bar own front more
line_clear bar own front new l rest more cut a b is =
    (λ i. lines_clear bar own (λ x. is x i) rest)
    ∙ sym (λ i. not (a i || b i) && lines_clear bar own (with_given front l.local) rest)
    ∙ ap (lines_clear bar own front) (sym cut)

-- a line that reads what it isn't to read decides
pub line_unclear : (bar own front : ℕ → Bool) (l : Line) (rest more : List Line) → more ≡ l ∷ rest → (instr_names bar l.instr || instr_names (beside own front) l.instr) ≡ true → false ≡ lines_clear bar own front more
line_unclear bar own front l rest more cut reads =
    sym (ap (lines_clear bar own front) cut ∙ ap (λ (t : Bool). not t && lines_clear bar own (with_given front l.local) rest) reads)

pub block_is : (bars : ℕ → ℕ → Bool) (place : ℕ → Option ℕ) (p : ℕ) (own : ℕ → Bool) (b : Block) → ((x : ℕ) → own x ≡ defined b x) → (sourced taken read clear free : Bool)
    → free ≡ (not sourced && (not (taken || read) && clear)) → sourced ≡ any_among own (phi_candidates b.phis b.phis) → taken ≡ phis_barred bars place b.phis → read ≡ end_names (bars p) b.end
    → clear ≡ lines_clear (bars p) own (λ x. is_phi x b.phis) b.lines → free ≡ block_clear bars place p b
unfolding block_clear
block_is bars place p own b is sourced taken read clear free e s t r c =
    e
    ∙ (λ i. not (s i) && (not (t i || r i) && c i))
    ∙ (λ i.
    not (any_among (λ x. is x i) (phi_candidates b.phis b.phis))
    && (not (phis_barred bars place b.phis || end_names (bars p) b.end) && lines_clear (bars p) (λ x. is x i) (λ x. is_phi x b.phis) b.lines))

pub inner_is : (among own : ℕ → Bool) (b : Block) → ((x : ℕ) → own x ≡ defined b x) → keys_among (beside among own) (block_candidates b) ≡ inner_keys among b
unfolding inner_keys
inner_is among own b is = λ i. keys_among (beside among (λ x. is x i)) (block_candidates b)

pub over_pushed : (at : ℕ → Option ℕ) (above : ℕ → ℕ → Bool) (p next : ℕ) (b : Block) (rest more : List Block) (old new : List ℕ) → more ≡ b ∷ rest → next ≡ suc p
    → new ≡ old ++ keys_among (is_over at above p) (block_candidates b) → new ++ all_over at above next rest ≡ old ++ all_over at above p more
over_pushed at above p next b rest more old new cut step e =
    ap (λ (xs : List ℕ). xs ++ all_over at above next rest) e
    ∙ append_assoc old (keys_among (is_over at above p) (block_candidates b)) (all_over at above next rest)
    ∙ (λ i. old ++ (keys_among (is_over at above p) (block_candidates b) ++ all_over at above (step i) rest))
    ∙ ap (λ (bs : List Block). old ++ all_over at above p bs) (sym cut)
