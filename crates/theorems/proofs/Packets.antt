-- The packets of a job are its sources with its paths, one of each.
use mathlib.Core.Path.{◌≡◌, refl, ap}
use mathlib.Core.List.{List, [], ◌∷◌, ◌++◌, map}
use Prim.Native.Nat.{ℕ}
use native.Mathlib.Omega.{arith}
use lib.ListN.{length}
use Rattle.rules.specs.Network.{Packet, packets_of}

abbrev pub paths_of : List Packet → List (List ℕ)
paths_of ps = map (λ p. p.path) ps

pub paths_of-packets : (ss : List ℕ) (ps : List (List ℕ)) → length ss ≡ length ps → paths_of (packets_of ss ps) ≡ ps
unfolding packets_of
paths_of-packets [] [] e = refl
paths_of-packets [] (p ∷ ps) e = absurd (omega arith)
paths_of-packets (s ∷ ss) [] e = absurd (omega arith)
paths_of-packets (s ∷ ss) (p ∷ ps) e = ap (λ r. p ∷ r) (paths_of-packets ss ps (omega arith))

pub packets_of-snoc : (ss : List ℕ) (s : ℕ) (ps : List (List ℕ)) (p : List ℕ) → length ss ≡ length ps → packets_of (ss ++ (s ∷ [])) (ps ++ (p ∷ [])) ≡ packets_of ss ps ++ (record { source = s; path = p } ∷ [])
unfolding packets_of
packets_of-snoc [] s [] p e = refl
packets_of-snoc [] s (q ∷ ps) p e = absurd (omega arith)
packets_of-snoc (t ∷ ss) s [] p e = absurd (omega arith)
packets_of-snoc (t ∷ ss) s (q ∷ ps) p e = ap (λ r. record { source = t; path = q } ∷ r) (packets_of-snoc ss s ps p (omega arith))
