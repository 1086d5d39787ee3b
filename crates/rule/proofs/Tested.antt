-- The test of a table decides whether nodes make one.
use Rattle.std.proofs.Common.{ℕ, ◌≤◌, List, length, get_or, Decides, refl, arith}
use Rattle.std.proofs.lemmas.Bool.Decides.{Decides-and, Decides-like, Decides-ltb}
use Rattle.policy.proofs.Tested.{leb_decides, below_decides}
use Rattle.rule.specs.declared.node.Node.{Node}
use Rattle.rule.specs.declared.node.Node.TheVariants.{True, At, Near, Not, And, Or, Next, Until}
use Rattle.rule.specs.declared.table.Table.{Table}
use Rattle.rule.specs.Nodes.{NodeFits, TableFits}
use Rattle.rule.specs.Tables.{nodes_of}
use Rattle.rule.specs.Testing.{node_test, table_test}

node_decides : (k i : ℕ) (n : Node) → Decides (node_test k i n) (NodeFits k i n)
node_decides k i True = (λ _. tt, λ _. refl)
node_decides k i (At v s) = Decides-and _ _ (Decides-ltb v k) (Decides-ltb s 32)
node_decides k i (Near v w n S) = Decides-and _ _ (Decides-ltb v k) (Decides-ltb w k)
node_decides k i (Not f) = Decides-ltb f i
node_decides k i (And f g) = Decides-and _ _ (Decides-ltb f i) (Decides-ltb g i)
node_decides k i (Or f g) = Decides-and _ _ (Decides-ltb f i) (Decides-ltb g i)
node_decides k i (Next f) = Decides-ltb f i
node_decides k i (Until f g) = Decides-and _ _ (Decides-ltb f i) (Decides-ltb g i)

pub table_decides : (k : ℕ) (ns : List Node) → Decides (table_test k ns) (TableFits k ns)
unfolding table_test
table_decides k ns =
    Decides-like _
    (λ p. record { some = p.0; few = p.1.0; low = p.1.1.0; high = p.1.1.1.0; each = p.1.1.1.1 })
    (λ f. (f.some, (f.few, (f.low, (f.high, f.each)))))
    (Decides-and _ _ (leb_decides 1 (length ns)) (Decides-and _ _ (leb_decides (length ns) 64) (Decides-and _ _ (leb_decides 1 k) (Decides-and _ _ (leb_decides k 4)
    (below_decides (λ i. node_test k i (get_or ns i True)) (λ i. NodeFits k i (get_or ns i True)) (λ i. node_decides k i (get_or ns i True)) (length ns))))))

pub table_fits : (t : Table) → TableFits t.places (nodes_of t)
table_fits t = (table_decides t.places (nodes_of t)).0 t.sound

-- ---- nodes of a table of k places are nodes of one of 4

node_four : (k i : ℕ) (n : Node) → k ≤ 4 → NodeFits k i n → NodeFits 4 i n
node_four k i True h f = f
node_four k i (At v s) h f = (omega (arith, f.0), f.1)
node_four k i (Near v w n S) h f = (omega (arith, f.0), omega (arith, f.1))
node_four k i (Not f) h fit = fit
node_four k i (And f g) h fit = fit
node_four k i (Or f g) h fit = fit
node_four k i (Next f) h fit = fit
node_four k i (Until f g) h fit = fit

pub fits_four : (k : ℕ) (ns : List Node) → TableFits k ns → TableFits 4 ns
fits_four k ns f = record { some = f.some; few = f.few; low = omega arith; high = omega arith; each = λ i l. node_four k i (get_or ns i True) f.high (f.each i l) }
