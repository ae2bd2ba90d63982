-- What an instruction that is no phi takes, and asks for as a phi.
use Rattle.std.proofs.Common.{◌≡◌, ℕ, [], refl}
use Rattle.ir_tree.specs.Items.{phi_reads, taken}
use Rattle.ir_tree.specs.Rules.{IsNoPhi, LineOnEdges}
use Rattle.ir_tree.specs.declared.function.Function.{Function}
use Rattle.ir_tree.specs.declared.instr.Instr.{Instr}
use Rattle.ir_tree.specs.declared.instr.Instr.TheVariants as kind

pub no_phi_reads : (i : Instr) → IsNoPhi i → phi_reads i ≡ []
no_phi_reads (kind.Binary op flags width left right) n = refl
no_phi_reads (kind.Icmp predicate reg left right) n = refl
no_phi_reads (kind.Cast op from value to) n = refl
no_phi_reads (kind.Select condition if_true if_false) n = refl
no_phi_reads (kind.Freeze reg value) n = refl
no_phi_reads (kind.Alloca shape align) n = refl
no_phi_reads (kind.Load reg address align) n = refl
no_phi_reads (kind.Store reg value address align) n = refl
no_phi_reads (kind.Address inbounds shape base indices) n = refl
no_phi_reads (kind.Call result callee arguments) n = refl
no_phi_reads (kind.Phi reg incoming) n = absurd n

pub no_taken : (i : Instr) → IsNoPhi i → taken i ≡ []
no_taken (kind.Binary op flags width left right) n = refl
no_taken (kind.Icmp predicate reg left right) n = refl
no_taken (kind.Cast op from value to) n = refl
no_taken (kind.Select condition if_true if_false) n = refl
no_taken (kind.Freeze reg value) n = refl
no_taken (kind.Alloca shape align) n = refl
no_taken (kind.Load reg address align) n = refl
no_taken (kind.Store reg value address align) n = refl
no_taken (kind.Address inbounds shape base indices) n = refl
no_taken (kind.Call result callee arguments) n = refl
no_taken (kind.Phi reg incoming) n = absurd n

pub no_edges : (f : Function) (b : ℕ) (i : Instr) → IsNoPhi i → LineOnEdges f b i
no_edges f b (kind.Binary op flags width left right) n = tt
no_edges f b (kind.Icmp predicate reg left right) n = tt
no_edges f b (kind.Cast op from value to) n = tt
no_edges f b (kind.Select condition if_true if_false) n = tt
no_edges f b (kind.Freeze reg value) n = tt
no_edges f b (kind.Alloca shape align) n = tt
no_edges f b (kind.Load reg address align) n = tt
no_edges f b (kind.Store reg value address align) n = tt
no_edges f b (kind.Address inbounds shape base indices) n = tt
no_edges f b (kind.Call result callee arguments) n = tt
no_edges f b (kind.Phi reg incoming) n = absurd n
