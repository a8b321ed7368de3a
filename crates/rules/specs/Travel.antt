-- Document 01, "The network and its steps", steps and hops: how many steps a packet is under way. What goes along a path takes
-- the links' delays for a parameter, so that it needs no network.
use Rattle.std.specs.Prelude.{List, ℕ}
use Rattle.counting.specs.Count.{sum_of}
use Rattle.rules.specs.Network.{Network, Job}

-- a packet enters its next link one step after this one
abbrev pub one_step : ℕ → ℕ
one_step link = 1

-- how many steps after each link of a network a packet enters the next
unfoldable pub delay_of : Network → ℕ → ℕ
delay_of net = one_step

abbrev pub delay_in : Job → ℕ → ℕ
delay_in j = delay_of j.network

-- how many steps these links take, one after the other
unfoldable pub travel : (ℕ → ℕ) → List ℕ → ℕ
travel delay links = sum_of delay links
