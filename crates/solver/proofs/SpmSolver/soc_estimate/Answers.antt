-- `solver::SpmSolver::soc_estimate` meets its contract. Assumes nothing.
use Rattle.std.specs.Prelude.{◌≡◌}
use Rattle.solver.specs.Cell.{cell_refusal, state_of_charge, soc_call}
use Rattle.solver.proofs.SpmSolver.soc_estimate.Goals as goal

pub returns : goal.returns
unfolding soc_call state_of_charge
returns c =
    let fits : 0 ≡ cell_refusal c.args.self = rw c.parts.ensures at c.in_ok-n.ensures.number in
    let count : c.in_ok-n.n.neg ≡ c.args.self.anode.n_nodes = rw c.parts.ensures at c.in_ok-n.ensures.counts.0 in
    rw (c.finite_or_refused.ensures, c.clamp.ensures, c.average_theta-theta.ensures, c.view.ensures.sheet, c.view.ensures.nodes, c.view.ensures.places, count, ← fits)
