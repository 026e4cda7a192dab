-- The row of an owner that has one, found by its index.
use Rattle.std.proofs.Common.{◌≡◌, ℕ, Bool, true, false, cond, Option, Some, None, slice_get, refl, sym, ap, ◌∙◌, subst}
use Rattle.std.specs.Prelude.{option_map}
use Rattle.std.specs.Cmp.{IsEquivalence}
use Rattle.std.proofs.lemmas.Option.{slice_get-map}
use Rattle.indexmap.specs.IndexMap.{IndexMap, keys, values, get, index_of_by, with_value_at, IsUnique, Updates}
use Rattle.indexmap.proofs.CallerLemmas.{updates-with_value_at}
use Rattle.attribute_tree.specs.declared.owner.Owner.{Owner}
use Rattle.attribute_tree.specs.declared.rows.Row.{Row}
use Rattle.attribute_tree.specs.Rows.{same_owner, node_in}
use Rattle.attribute_tree.proofs.Numbers.{position_stands}
use Rattle.attribute_tree.proofs.Fronts.{owner_is}
use Rattle.attribute_tree.proofs.Placed.{owner_itself}

laws : IsEquivalence same_owner
laws = record { refl = owner_itself; symm = λ x y. by x y (same_owner x y) refl (same_owner y x) refl; congr = λ x y z e. ap (λ w. same_owner w z) (owner_is x y e) }
  where
    by : (x y : Owner) (b : Bool) → same_owner x y ≡ b → (d : Bool) → same_owner y x ≡ d → same_owner x y ≡ same_owner y x
    by x y true e d f = subst (λ z. same_owner x z ≡ same_owner z x) (owner_is x y e) refl
    by x y b e true f = subst (λ z. same_owner z y ≡ same_owner y z) (owner_is y x f) refl
    by x y false e false f = e ∙ sym f

pub rowless : (o : Option Row) → node_in o ≡ None → o ≡ None
rowless None h = refl
rowless (Some row) h = absurd (cc)

-- a row that is set keeps its node
pub same_nodes : (rows more : Owner → Option Row) (o : Owner) (row put : Row) → rows o ≡ Some row → put.node ≡ row.node → ((a : Owner) → more a ≡ cond (same_owner o a) (Some put) (rows a)) → (a : Owner) → node_in (more a) ≡ node_in (rows a)
same_nodes rows more o row put had same updates a = ap node_in (updates a) ∙ by (same_owner o a) refl
  where
    by : (b : Bool) → same_owner o a ≡ b → node_in (cond b (Some put) (rows a)) ≡ node_in (rows a)
    by true e = ap Some same ∙ sym (ap node_in (sym (ap rows (owner_is o a e)) ∙ had))
    by false e = refl

module _ {S : Type 0} (m : IndexMap Owner Row S) (o key : Owner) (i : ℕ) (row : Row) (found : index_of_by (same_owner o) m ≡ Some i) (entry : slice_get m.entries i ≡ Some (key, row)) where
  pub owner_at : slice_get (keys m) i ≡ Some o
  owner_at = position_stands same_owner owner_is (keys m) o i found

  key_is : key ≡ o
  key_is = let both : Some key ≡ Some o = sym (slice_get-map (λ e. e.0) m.entries i ∙ ap (option_map (λ e. e.0)) entry) ∙ owner_at in cc

  pub row_at : slice_get (values m) i ≡ get same_owner m o → get same_owner m o ≡ Some row
  row_at value = sym value ∙ (slice_get-map (λ e. e.1) m.entries i ∙ ap (option_map (λ e. e.1)) entry)

  pub row_set : IsUnique same_owner m → (put : Row) → Updates same_owner m (with_value_at m i put) o (Some put)
  row_set unique put = subst (λ k. Updates same_owner m (with_value_at m i put) k (Some put)) key_is (updates-with_value_at m i put laws unique key row entry)
