-- A sound function stays sound as its free choices are settled.
use Rattle.std.proofs.Common.{◌≡◌, ℕ, suc, List, [], ◌∷◌, ◌++◌, map, refl, sym, ◌∙◌, ap, subst}
use Rattle.std.specs.Prelude.{All, slice_get}
use Rattle.std.proofs.lemmas.List.{map-append}
use Rattle.std.proofs.lemmas.List.Elements.{All-cons, All-map}
use Rattle.ir_tree.specs.Flow.{AvailableAt, line_count}
use Rattle.ir_tree.specs.Formed.{ArgumentFormed, Distinct, IsBlock, ItemFormed}
use Rattle.ir_tree.specs.Items.{Item, phi_item, line_item, end_item, block_items, end_reads, items, items_from, lines_from, reads, taken, typed}
use Rattle.ir_tree.specs.Rules.{CastsRight, DiffersRight, Follows, HasEdges, HasType, IsNoPhi, IsThere, IsThereAtEnd, Keeps, LeavesEntry, LineCasts, LineFollows, ReadsThere, Sound, StandsRight, place}
use Rattle.ir_tree.specs.declared.block.Block.{Block}
use Rattle.ir_tree.specs.declared.function.Function.{Function}
use Rattle.ir_tree.specs.declared.instr.Incoming.{Incoming}
use Rattle.ir_tree.specs.declared.instr.Instr.{Instr}
use Rattle.ir_tree.specs.declared.instr.Line.{Line}
use Rattle.ir_tree.specs.declared.instr.Phi.{Phi}
use Rattle.ir_tree.specs.declared.operand.Operand.{Operand}
use Rattle.ir_tree.specs.declared.operand.Operand.TheVariants.{Local, Null, Number as Constant, Poison as PoisonOf, Symbol as Named}
use Rattle.ir_tree.specs.declared.operand.Reg.TheVariants.{Int}
use Rattle.ir_tree.specs.declared.rule.Rule.{Rule}
use Rattle.ir_tree.specs.declared.rule.Rule.TheVariants.{TypeMismatch, NotAvailable, PhiEdges, PhiPlace, EntryBranch, Index, Cast, CaseTwice}
use Rattle.ir_facts.specs.Settled.{settled, settled_block, settled_line}
use Rattle.ir_facts.proofs.Availability.{all_then, none_all}
use Rattle.ir_facts.proofs.Chosen.{IsChoice, chooser_named, settled_by}
use Rattle.ir_facts.proofs.ReplacedSound.{Alike, formed_moved, has_edges_moved, leaves_moved, types_moved}
use Rattle.ir_facts.proofs.RuleTypes.{Typed, row_typed}
use Rattle.ir_facts.proofs.Settling.{available_settled, count_settled, edges_settled, locals_settled, numbers_settled, place_settled, typings_settled}

-- ---- items

abbrev item_settled : Item → Item
item_settled (phi_item b p) = phi_item b p
item_settled (line_item b k l) = line_item b k (settled_line l)
item_settled (end_item b t) = end_item b t

phis_same : (b : ℕ) (ps : List Phi) → map (phi_item b) ps ≡ map item_settled (map (phi_item b) ps)
phis_same b [] = refl
phis_same b (p ∷ ps) = ap (λ (is : List Item). phi_item b p ∷ is) (phis_same b ps)

lines_same : (b k : ℕ) (ls : List Line) → lines_from b k (map settled_line ls) ≡ map item_settled (lines_from b k ls)
lines_same b k [] = refl
lines_same b k (l ∷ ls) = ap (λ (is : List Item). line_item b k (settled_line l) ∷ is) (lines_same b (suc k) ls)

block_same : (b : ℕ) (block : Block) → block_items b (settled_block block) ≡ map item_settled (block_items b block)
block_same b block =
    (λ i. phis_same b block.phis i ++ ((lines_same b 0 block.lines i ++ end_item b block.end ∷ [])))
    ∙ ap (λ (is : List Item). map item_settled (map (phi_item b) block.phis) ++ is) (sym (map-append item_settled (lines_from b 0 block.lines) (end_item b block.end ∷ [])))
    ∙ sym (map-append item_settled (map (phi_item b) block.phis) (lines_from b 0 block.lines ++ end_item b block.end ∷ []))

items_same : (b : ℕ) (bs : List Block) → items_from b (map settled_block bs) ≡ map item_settled (items_from b bs)
items_same b [] = refl
items_same b (block ∷ bs) =
    (λ i. block_same b block i ++ items_same (suc b) bs i) ∙ sym (map-append item_settled (block_items b block) (items_from (suc b) bs))

one_all : {X : Type 0} (P : X → Type 0) (x : X) → P x → All P (x ∷ [])
one_all P x h = All-cons P x [] h (none_all P)

no_blocks : (bs : List Block) → map settled_block bs ≡ [] → bs ≡ []
no_blocks [] e = refl
no_blocks (b ∷ bs) e = absurd (cc e)

module _ (f : Function) where
  abbrev g : Function
  g = settled f

  like : Alike f g
  like = record {
    locals_are = sym (locals_settled f);
    numbers_are = sym (numbers_settled f);
    typings_are = sym (typings_settled f);
    result_is = refl;
    places_are = λ n. sym (place_settled f.blocks n);
    edges_are = λ b. sym (edges_settled f b);
  }

  -- what is known of an item before
  record Before (item : Item) : Type 0 where
    formed : ItemFormed f item
    types : Keeps f TypeMismatch item
    casts : CastsRight item

  abbrev line_with : ℕ → ℕ → Line → Instr → Item
  line_with b k l j = line_item b k (record { local = l.local; instr = j })

  constant_typed : (b k : ℕ) (l : Line) → Before (line_item b k l) → (w n : ℕ) → IsChoice l.instr w n → Typed f (Int w) (Constant w n)
  constant_typed b k l h w n c =
      row_typed f l.local l.instr (record { types = h.types.0; formed = h.formed.operands; kind = h.formed.kind.0; arms = h.types.1; casts = h.casts })
      (Constant w n) c.row (Int w) c.typed_as

  -- ---- each kind of item

  formed_settled : (item : Item) → Before item → ItemFormed g (item_settled item)
  formed_settled (phi_item b p) h = formed_moved f g like (phi_item b p) h.formed
  formed_settled (end_item b t) h = formed_moved f g like (end_item b t) h.formed
  formed_settled (line_item b k l) h =
      settled_by (λ (j : Instr). ItemFormed g (line_with b k l j)) l.instr (formed_moved f g like (line_item b k l) h.formed)
      (λ w n c. let own = constant_typed b k l h w n c in record {
        operands = one_all (ArgumentFormed g) (typed (Int w) (Constant w n)) (own.1.0, own.1);
        sources = none_all (λ e. IsBlock g e.from);
        kind = (tt, chooser_named l.instr l.local c.chooses h.formed.kind.1);
      })

  types_settled : (item : Item) → Before item → Keeps g TypeMismatch (item_settled item)
  types_settled (phi_item b p) h = types_moved f g like (phi_item b p) h.types
  types_settled (end_item b t) h = types_moved f g like (end_item b t) h.types
  types_settled (line_item b k l) h =
      settled_by (λ (j : Instr). Keeps g TypeMismatch (line_with b k l j)) l.instr (types_moved f g like (line_item b k l) h.types)
      (λ w n c. (one_all (HasType g) (typed (Int w) (Constant w n)) refl, tt))

  there_moved : (b k : ℕ) (o : Operand) → IsThere f b k o → IsThere g b k o
  there_moved b k (Local x) h = available_settled f b k x h
  there_moved b k (Constant w n) h = tt
  there_moved b k Null h = tt
  there_moved b k (PoisonOf reg) h = tt
  there_moved b k (Named s i) h = tt

  end_there_moved : (b : ℕ) (o : Operand) → IsThereAtEnd f b o → IsThereAtEnd g b o
  end_there_moved b (Local x) h = subst (λ (k : ℕ). AvailableAt g b k x) (sym (count_settled f b)) (available_settled f b (line_count (slice_get f.blocks b)) x h)
  end_there_moved b (Constant w n) h = tt
  end_there_moved b Null h = tt
  end_there_moved b (PoisonOf reg) h = tt
  end_there_moved b (Named s i) h = tt

  entries_moved : (es : List Incoming) → All (λ e. IsThereAtEnd f (place f.blocks e.from) e.value) es → All (λ e. IsThereAtEnd g (place g.blocks e.from) e.value) es
  entries_moved es h =
      all_then (λ e. IsThereAtEnd f (place f.blocks e.from) e.value) (λ e. IsThereAtEnd g (place g.blocks e.from) e.value) es
      (λ e own. subst (λ (p : ℕ). IsThereAtEnd g p e.value) (sym (place_settled f.blocks e.from)) (end_there_moved (place f.blocks e.from) e.value own)) h

  reads_moved : (b k : ℕ) (l : Line) → ReadsThere f (line_item b k l) → ReadsThere g (line_item b k l)
  reads_moved b k l h = all_then (λ a. IsThere f b k a.operand) (λ a. IsThere g b k a.operand) (reads l.instr) (λ a. there_moved b k a.operand) h

  there_settled : (item : Item) → Keeps f NotAvailable item → Keeps g NotAvailable (item_settled item)
  there_settled (phi_item b p) h = (tt, entries_moved p.incoming h.1)
  there_settled (end_item b t) h = (
    all_then (λ a. IsThereAtEnd f b a.operand) (λ a. IsThereAtEnd g b a.operand) (end_reads t) (λ a. end_there_moved b a.operand) h.0,
    none_all (λ e. IsThereAtEnd g (place g.blocks e.from) e.value),
  )
  there_settled (line_item b k l) h =
      settled_by (λ (j : Instr). Keeps g NotAvailable (line_with b k l j)) l.instr (reads_moved b k l h.0, entries_moved (taken l.instr) h.1)
      (λ w n c. (
        one_all (λ a. IsThere g b k a.operand) (typed (Int w) (Constant w n)) tt,
        none_all (λ e. IsThereAtEnd g (place g.blocks e.from) e.value),
      ))

  edges_kept : (item : Item) → HasEdges f item → HasEdges g (item_settled item)
  edges_kept (phi_item b p) h = has_edges_moved f g like (phi_item b p) h
  edges_kept (end_item b t) h = tt
  edges_kept (line_item b k l) h =
      settled_by (λ (j : Instr). HasEdges g (line_with b k l j)) l.instr (has_edges_moved f g like (line_item b k l) h) (λ w n c. tt)

  leaves_kept : (item : Item) → LeavesEntry f item → LeavesEntry g (item_settled item)
  leaves_kept (phi_item b p) h = tt
  leaves_kept (end_item b t) h = leaves_moved f g like (end_item b t) h
  leaves_kept (line_item b k l) h = tt

  stands_kept : (item : Item) → StandsRight item → StandsRight (item_settled item)
  stands_kept (phi_item b p) h = h
  stands_kept (end_item b t) h = tt
  stands_kept (line_item b k l) h = settled_by IsNoPhi l.instr h (λ w n c. tt)

  follows_kept : (item : Item) → Follows item → Follows (item_settled item)
  follows_kept (phi_item b p) h = tt
  follows_kept (end_item b t) h = tt
  follows_kept (line_item b k l) h = settled_by LineFollows l.instr h (λ w n c. tt)

  casts_kept : (item : Item) → CastsRight item → CastsRight (item_settled item)
  casts_kept (phi_item b p) h = tt
  casts_kept (end_item b t) h = tt
  casts_kept (line_item b k l) h = settled_by LineCasts l.instr h (λ w n c. tt)

  differs_kept : (item : Item) → DiffersRight item → DiffersRight (item_settled item)
  differs_kept (phi_item b p) h = tt
  differs_kept (end_item b t) h = h
  differs_kept (line_item b k l) h = tt

  -- ---- all items

  each_settled : (P Q : Item → Type 0) → ((item : Item) → P item → Q (item_settled item)) → All P (items f) → All Q (items g)
  each_settled P Q to h =
      subst (λ (is : List Item). All Q is) (sym (items_same 0 f.blocks))
      (All-map Q item_settled (items f) (all_then P (λ item. Q (item_settled item)) (items f) to h))

  module _ (sound : Sound f) where
    before : All Before (items f)
    before = λ i d lt. record { formed = sound.formed.items i d lt; types = sound.rules TypeMismatch i d lt; casts = sound.rules Cast i d lt }

    keeps_settled : (rule : Rule) → All (Keeps g rule) (items g)
    keeps_settled TypeMismatch = each_settled Before (Keeps g TypeMismatch) types_settled before
    keeps_settled NotAvailable = each_settled (Keeps f NotAvailable) (Keeps g NotAvailable) there_settled (sound.rules NotAvailable)
    keeps_settled PhiEdges = each_settled (Keeps f PhiEdges) (Keeps g PhiEdges) edges_kept (sound.rules PhiEdges)
    keeps_settled PhiPlace = each_settled (Keeps f PhiPlace) (Keeps g PhiPlace) stands_kept (sound.rules PhiPlace)
    keeps_settled EntryBranch = each_settled (Keeps f EntryBranch) (Keeps g EntryBranch) leaves_kept (sound.rules EntryBranch)
    keeps_settled Index = each_settled (Keeps f Index) (Keeps g Index) follows_kept (sound.rules Index)
    keeps_settled Cast = each_settled (Keeps f Cast) (Keeps g Cast) casts_kept (sound.rules Cast)
    keeps_settled CaseTwice = each_settled (Keeps f CaseTwice) (Keeps g CaseTwice) differs_kept (sound.rules CaseTwice)

    pub settled_sound : Sound g
    settled_sound = record {
      formed = record {
        result = sound.formed.result;
        params = sound.formed.params;
        once = subst Distinct (λ i. sym (locals_settled f) i ++ sym (numbers_settled f) i) sound.formed.once;
        items = each_settled Before (ItemFormed g) formed_settled before;
        declared = λ none. sound.formed.declared (no_blocks f.blocks none);
      };
      rules = keeps_settled;
    }
