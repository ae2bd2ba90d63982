-- What was made of a function is code of it: it means the same by position, what is known before the run is valid, and its lines can run.
use Rattle.std.proofs.Common.{◌≡◌, ℕ, ◌+◌, Bool, true, false, nat_eq, if◌then◌else◌, List, [], ◌∷◌, length, slice_get, Some, refl, sym, ap, ap₂, ◌∙◌}
use Rattle.std.specs.List.{AllZip}
use Rattle.ir_tree.specs.declared.block.Block.{Block as MeantBlock}
use Rattle.ir_tree.specs.declared.instr.Incoming.{Incoming}
use Rattle.ir_tree.specs.declared.instr.Line.{Line as MeantLine}
use Rattle.ir_tree.specs.declared.instr.Phi.{Phi as MeantPhi}
use Rattle.ir_tree.specs.declared.operand.Symbol.{Symbol}
use Rattle.ir_meaning.specs.Act.{incoming_value, phis_bound}
use Rattle.ir_meaning.specs.Frame.{Locals, Signature, value_of}
use Rattle.ir_meaning.specs.Memory.{Memory as MeantMemory}
use Rattle.ir_meaning.specs.declared.value.Value.{Value as MeantValue}
use Rattle.ir_machine.specs.declared.memory.Memory.{Memory}
use Rattle.ir_interp.specs.Locals.{source_meant}
use Rattle.ir_interp.specs.Phis.{AreEdgesKnown, ArePhisKnown, edge_meant, phis_meant}
use Rattle.ir_interp.specs.Tasks.{CanRun}
use Rattle.ir_interp.specs.declared.phis.Edge.{Edge}
use Rattle.ir_interp.specs.declared.phis.Phi.{Phi}
use Rattle.ir_interp.specs.Lines.{IsLine}
use Rattle.ir_interp.specs.declared.line.CodeLine.{CodeLine}
use Rattle.ir_interp.specs.Code.{IsBlock, IsBlockKnown, counted_before}
use Rattle.ir_interp.specs.declared.code.Block.{Block}
use Rattle.machine_code.specs.Addresses.{AreValid, HasAddresses}
use Rattle.machine_code.specs.Blocks.{IsBlockFor, IsEdge, IsLineFor, IsPhi}
use Rattle.machine_code.specs.declared.addresses.Addresses.{Addresses}
use Rattle.machine_code.proofs.Zips.{zip_got, zip_long, zip_other}

-- ---- phis

module _ (t : Addresses) (names : List Symbol) (sig : Signature) (h : HasAddresses names sig t) where
  edge_placed : (locals : Locals) (from : ℕ) (es : List Incoming) (ds : List Edge) → AllZip (IsEdge t) es ds → incoming_value sig locals from es ≡ edge_meant names locals from ds
  edge_placed locals from [] [] z = refl
  edge_placed locals from [] (d ∷ ds) z = absurd z
  edge_placed locals from (e ∷ es) [] z = absurd z
  edge_placed locals from (e ∷ es) (d ∷ ds) z =
      by (nat_eq e.from from) (edge_placed locals from es ds z.1) ∙ ap (λ (n : ℕ). if nat_eq n from then source_meant names locals d.source else edge_meant names locals from ds) (sym z.0.from) where
        by : (v : Bool) → incoming_value sig locals from es ≡ edge_meant names locals from ds →
            (if v then value_of sig locals e.value else incoming_value sig locals from es) ≡ (if v then source_meant names locals d.source else edge_meant names locals from ds)
        by true rest = sym (z.0.stands.means names sig h locals)
        by false rest = rest

  phis_placed : (locals : Locals) (from : ℕ) (after : Locals) (ps : List MeantPhi) (qs : List Phi) → AllZip (IsPhi t) ps qs → phis_bound sig locals from ps after ≡ phis_meant names locals from qs after
  phis_placed locals from after [] [] z = refl
  phis_placed locals from after [] (q ∷ qs) z = absurd z
  phis_placed locals from after (p ∷ ps) [] z = absurd z
  phis_placed locals from after (p ∷ ps) (q ∷ qs) z =
      ap₂ (λ (x : ℕ) (v : MeantValue). (x, v) ∷ phis_bound sig locals from ps after) (sym z.0.local) (edge_placed locals from p.incoming q.edges.items z.0.edges)
      ∙ ap (λ (ls : Locals). (q.local, edge_meant names locals from q.edges.items) ∷ ls) (phis_placed locals from after ps qs z.1)

  -- ---- blocks

  pub block_means : (blocks : List MeantBlock) (q before : ℕ) (b : MeantBlock) (c : Block) → IsBlockFor t blocks before b c → before ≡ counted_before blocks q → IsBlock names sig blocks q b c
  block_means blocks q before b c f e = record {
    number = f.number;
    before = f.before ∙ ap (λ (n : ℕ). n + length b.phis) e;
    short = f.short;
    phis = λ locals from after. phis_placed locals from after b.phis c.phis.items f.phis;
    long = zip_long (IsLineFor t) b.lines c.lines.items f.lines;
    lines = λ n l line gl gline. line_means l line (zip_got (IsLineFor t) b.lines c.lines.items n l line f.lines gl gline);
    exit = λ locals. f.exit.means names sig h locals;
  } where
    line_means : (l : MeantLine) (line : CodeLine) → IsLineFor t l line → IsLine names sig l line
    line_means l line g = record { local = g.local; task = λ locals. g.task.means names sig h locals }

-- ---- what is known before the run

module _ (t : Addresses) (names : List Symbol) (m : Memory) (memory : MeantMemory) (h : AreValid names m memory t) where
  edges_known : (es : List Incoming) (ds : List Edge) → AllZip (IsEdge t) es ds → AreEdgesKnown names m memory ds
  edges_known [] [] z = tt
  edges_known [] (d ∷ ds) z = absurd z
  edges_known (e ∷ es) [] z = absurd z
  edges_known (e ∷ es) (d ∷ ds) z = (z.0.stands.known names m memory h, edges_known es ds z.1)

  phis_known : (ps : List MeantPhi) (qs : List Phi) → AllZip (IsPhi t) ps qs → ArePhisKnown names m memory qs
  phis_known [] [] z = tt
  phis_known [] (q ∷ qs) z = absurd z
  phis_known (p ∷ ps) [] z = absurd z
  phis_known (p ∷ ps) (q ∷ qs) z = (edges_known p.incoming q.edges.items z.0.edges, phis_known ps qs z.1)

  pub block_known : (blocks : List MeantBlock) (before : ℕ) (b : MeantBlock) (c : Block) → IsBlockFor t blocks before b c → IsBlockKnown names m memory c
  block_known blocks before b c f = record {
    phis = phis_known b.phis c.phis.items f.phis;
    lines = λ k line g. let l = zip_other (IsLineFor t) b.lines c.lines.items k line f.lines g in l.1.1.task.known names m memory h;
    exit = f.exit.known names m memory h;
  }

-- ---- lines can run

pub line_runs : (t : Addresses) (blocks : List MeantBlock) (before : ℕ) (b : MeantBlock) (c : Block) → IsBlockFor t blocks before b c → (k : ℕ) (line : CodeLine) → slice_get c.lines.items k ≡ Some line → CanRun line.task
line_runs t blocks before b c f k line g = let l = zip_other (IsLineFor t) b.lines c.lines.items k line f.lines g in l.1.1.task.can
