use Rattle.std.proofs.Common.{◌≡◌, ℕ, List, sym, ap, ◌∙◌}
use Rattle.tp_bound.specs.declared.store.Store.{Store}
use Rattle.tp_bound.specs.Content.{Content}
use Rattle.tp_bound.specs.Stores.{Stands, opened, OpensTo}
use Rattle.tp_bound.proofs.laws.a_file_opens_to_one_content.Goals as goal

one_reading : (xs ys : List (List ℕ)) (s t : Store) → xs ≡ ys → opened xs ≡ Stands s → opened ys ≡ Stands t → s ≡ t
one_reading xs ys s t same x y = let both : Stands s ≡ Stands t = sym x ∙ ap opened same ∙ y in cc

one_content : (file : List ℕ) (a b : Content) (x : OpensTo a file) (y : OpensTo b file) → x.0 ≡ y.0 → a ≡ b
one_content file a b x y same = sym x.4 ∙ ap (λ (s : Store). s.content) (one_reading x.0 y.0 x.2 y.2 same x.3 y.3) ∙ y.4

pub returns : goal.returns
returns c = record {
  contents = λ file a b small x y. one_content file a b x y (c.a_log_stands_for_one_list.ensures file x.0 y.0 small x.1 y.1);
  stores = λ file xs ys s t small on_xs is_s on_ys is_t. one_reading xs ys s t (c.a_log_stands_for_one_list.ensures file xs ys small on_xs on_ys) is_s is_t;
}
