-- Loading, from its steps: opening, beginning a draft, and filling it.
use Rattle.std.proofs.Common.{◌≡◌, ℕ, List, ◌++◌, Ok, Option, sym, ap, ◌∙◌, ap₂}
use Rattle.theory.specs.Residues.{residues}
use Rattle.roots.specs.declared.call.Call.{Call}
use Rattle.roots.specs.Laws.{adopting, giving_fourth}
use Rattle.roots.specs.Runs.{tried}
use Rattle.roots.specs.State.{State, start}
use Rattle.books.specs.Layout.{Head, fourth_in, offset, opened}
use Rattle.books.specs.Loading.{calls_of, records, with_modulus, loaded, loaded_over, loaded_with}
use Rattle.books.proofs.Turns.{fourth_given}

-- The head's words are q, i and n; the draft is over q and begins as it should; the calls of the book leave s in it.
pub loads_to : (book same-book : List ℕ) (q i n at : ℕ) (begun s : State)
    → same-book ≡ book → opened book ≡ Ok (record { modulus = q; fourth = i; count = n })
    → ((calls : List Call) → loaded_over q calls ≡ with_modulus q (tried (residues q) (start q) calls))
    → at ≡ q → begun ≡ start q → tried (residues at) begun (calls_of same-book n i) ≡ Ok s → loaded book ≡ Ok (q, s)
loads_to book same-book q i n at begun s same opens passes over starts fills =
    ap (loaded_with book) opens ∙ passes (calls_of book n i) ∙ ap (with_modulus q) filled
  where
    filled : tried (residues q) (start q) (calls_of book n i) ≡ Ok s
    filled =
        ap₂ (λ (p : ℕ) (u : State). tried (residues p) u (calls_of book n i)) (sym over) (sym starts)
        ∙ ap (λ (b : List ℕ). tried (residues at) begun (calls_of b n i)) (sym same) ∙ fills

-- The same of a head that was read, with its fourth root o, if it has one.
pub loads_read : (book same-book : List ℕ) (h : Head) (q n at : ℕ) (o : Option ℕ) (begun s : State)
    → same-book ≡ book → opened book ≡ Ok h → q ≡ h.modulus → o ≡ fourth_in h.fourth → n ≡ h.count
    → ((calls : List Call) → loaded_over q calls ≡ with_modulus q (tried (residues q) (start q) calls))
    → at ≡ q → begun ≡ start q → tried (residues at) begun (adopting (records same-book (offset n 0) n) ++ giving_fourth o) ≡ Ok s → loaded book ≡ Ok (q, s)
loads_read book same-book h q n at o begun s same opens modulus fourth counts passes over starts fills =
    loads_to book same-book q h.fourth n at begun s same
    (opens ∙ ap₂ (λ (m c : ℕ). Ok (record { modulus = m; fourth = h.fourth; count = c })) (sym modulus) (sym counts))
    passes over starts
    (ap (λ (cs : List Call). tried (residues at) begun (adopting (records same-book (offset n 0) n) ++ cs))
    (sym (ap giving_fourth fourth ∙ fourth_given h.fourth)) ∙ fills)
