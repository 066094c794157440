-- The electrolyte after a step, node by node from the old nodes. Definitions only.
use Rattle.std.specs.Prelude.{ℕ, ◌+◌, ◌-◌, cond, ◌&&◌, List, replicate, nat_lt, Float}
use Rattle.std.specs.Float.Ieee.{neg}
use Rattle.binary64.specs.Operators.{◌⊕◌, ◌⊖◌, ◌⊗◌, ◌⊘◌, count}
use Rattle.binary64.specs.Literals.{«0·0», «0·5», «100·0», «3000·0»}
use Rattle.elementary.specs.Exp.{one, exp_of}
use Rattle.elementary.specs.Power.{powf_of}
use Rattle.min_max.specs.MinMax.{clamp_of}
use Rattle.iterate.specs.Iterate.{first_by}
use Rattle.arrays.specs.Places.{at}
use Rattle.dfn_parameters.specs.Sides.{anode_of, cathode_of, area_of, faraday, pore_flux}
use Rattle.dfn_parameters.specs.declared.DfnParams.{DfnParams}
use Rattle.dfn_parameters.specs.declared.Side.{Side}
use Rattle.dfn_electrolyte.specs.declared.DiffusivityParams.{DiffusivityParams}
use Rattle.dfn_electrolyte.specs.declared.Region.{Region}

-- both electrodes have the porosity eps_e_elec
abbrev pub diffusivity_params : DfnParams → DiffusivityParams
diffusivity_params p = record { factor = powf_of p.eps_e_elec p.brugg; d_e0 = p.d_e0; gamma_e = p.gamma_e; c_e0 = p.c_e0 }

-- eps^brugg * (d_e0 * exp(-gamma_e * (c / c_e0 - 1)))
abbrev pub d_eff_of : DiffusivityParams → Float → Float
d_eff_of s c = s.factor ⊗ (s.d_e0 ⊗ exp_of (neg s.gamma_e ⊗ (c ⊘ s.c_e0 ⊖ one)))

-- (1 - t_plus) * a * j * FARADAY
abbrev source : DfnParams → Side → Float → Float
source p side j = (one ⊖ p.t_plus) ⊗ area_of side ⊗ j ⊗ faraday

-- dx = l / n, dt / (eps * dx), dt * source / eps
abbrev region_at : DfnParams → ℕ → Float → Float → Float → Region
region_at p n dx src dt = record { n = n; dx = dx; rate = dt ⊘ (p.eps_e_elec ⊗ dx); source_term = dt ⊗ src ⊘ p.eps_e_elec }

abbrev pub region_of : DfnParams → Side → ℕ → Float → Float → Region
region_of p side n j dt = region_at p n (side.l ⊘ count n) (source p side j) dt

-- the diffusivities at the first n nodes
unfoldable pub d_effs : DiffusivityParams → List Float → ℕ → List Float
d_effs s c n = first_by n (λ i. d_eff_of s (at c i)) (replicate 33 «0·0»)

-- 0.5 * (da + db) * (b - a) / dx
abbrev pub flow_with : Float → Float → Float → Float → Float → Float
flow_with da db a b dx = «0·5» ⊗ (da ⊕ db) ⊗ (b ⊖ a) ⊘ dx

-- c + dt / (eps * dx) * (flux_right - flux_left) + dt * source / eps
unfoldable pub moved_with : Region → List Float → List Float → ℕ → Float
moved_with v c d i =
    at c i
    ⊕ v.rate ⊗ (flow_with (at d i) (at d (i + 1)) (at c i) (at c (i + 1)) v.dx ⊖ flow_with (at d (i - 1)) (at d i) (at c (i - 1)) (at c i) v.dx)
    ⊕ v.source_term

-- The anode's nodes but its first and its last, and the cathode's but the last of all, its first included; the others keep their value.
-- Node n of the anode's n is the separator.
unfoldable pub node_with : Region → Region → List Float → List Float → ℕ → Float
node_with neg pos c d i =
    cond (nat_lt 0 i && nat_lt (i + 1) neg.n) (moved_with neg c d i)
    (cond (nat_lt neg.n i && nat_lt (i + 1) (neg.n + 1 + pos.n)) (moved_with pos c d i) (at c i))

-- all nodes held to 100 to 3,000, those that keep their value too
unfoldable pub nodes_with : Region → Region → List Float → List Float → List Float
nodes_with neg pos c d =
    first_by (neg.n + 1 + pos.n) (λ i. clamp_of (node_with neg pos c d i) «100·0» «3000·0») c

-- the fluxes: -I at the anode, I at the cathode
unfoldable pub electrolyte_after : DfnParams → ℕ → ℕ → List Float → Float → Float → List Float
electrolyte_after p n m c current dt =
    nodes_with
    (region_of p (anode_of p) n (pore_flux (anode_of p) p.area (neg current)) dt)
    (region_of p (cathode_of p) m (pore_flux (cathode_of p) p.area current) dt)
    c
    (d_effs (diffusivity_params p) c (n + 1 + m))
