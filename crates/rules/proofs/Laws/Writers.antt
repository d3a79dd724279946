-- The law of who writes a page, of every kind of transaction.
use Rattle.std.proofs.Common.{◌≡◌, ℕ, ◌⊎◌, true, false, Option, Some, None, cond, eqb, refl, sym, ◌∙◌, inl, inr}
use Rattle.std.specs.Option.{option_map_or}
use Rattle.std.proofs.lemmas.Bool.{eqb-true}
use Rattle.base.specs.declared.transaction.Kind.{Kind}
use Rattle.base.specs.declared.transaction.Kind.TheVariants.{Share, Lend, Donate}
use Rattle.base.specs.Access.{View}
use Rattle.base.specs.Manifest.{grant}
use Rattle.base.specs.Transactions.{Live, Gift}
use Rattle.base.specs.Ledger.{live_at, donation_at, kept, retrieved, view_under}
use Rattle.base.specs.State.{State, sees, home_of}
use Rattle.rules.specs.Run.{IsReached}
use Rattle.rules.specs.Laws.Writers.{IsReadWrite, WritesBy, MayBothWriteByGrants, MayBothWriteByTransaction, AreWritersAllowed}

by_kind : (k : Kind) (home : View) → IsReadWrite (kept k home) → (k ≡ Share) × IsReadWrite home
by_kind Share home w = (refl, w)
by_kind Lend home w = absurd w
by_kind Donate home w = absurd w

under : (t : Live) (home : View) (p : ℕ) → IsReadWrite (view_under t home p) → WritesBy t home p
under t home p w =
    elim (eqb t.sender p) as (λ b. eqb t.sender p ≡ b → IsReadWrite (cond b (kept t.kind home) (retrieved t.receivers p)) → WritesBy t home p) [
      | true ↦ λ e v. let k = by_kind t.kind home v in inl (sym (eqb-true _ _ e), k.0, k.1)
      | false ↦ λ e v. inr v
    ] refl w

taken : (d : Gift) (p : ℕ) → IsReadWrite (cond (eqb d.taker p) (Some d.access) None) → d.taker ≡ p
taken d p w =
    elim (eqb d.taker p) as (λ b. eqb d.taker p ≡ b → IsReadWrite (cond b (Some d.access) None) → d.taker ≡ p) [ true ↦ λ e v. eqb-true _ _ e | false ↦ λ e v. absurd v ] refl w

cases : (l : Option Live) (d : Option Gift) (home gp gq : View) (p q : ℕ)
    → IsReadWrite (option_map_or (λ (t : Live). view_under t home p) l (option_map_or (λ (x : Gift). cond (eqb x.taker p) (Some x.access) None) d gp))
    → IsReadWrite (option_map_or (λ (t : Live). view_under t home q) l (option_map_or (λ (x : Gift). cond (eqb x.taker q) (Some x.access) None) d gq))
    → (p ≡ q) ⊎ (((l ≡ None) × (d ≡ None) × IsReadWrite gp × IsReadWrite gq) ⊎ ((t : Live) × (l ≡ Some t) × WritesBy t home p × WritesBy t home q))
cases (Some t) d home gp gq p q wp wq = inr (inr (t, refl, under t home p wp, under t home q wq))
cases None (Some x) home gp gq p q wp wq = inl (sym (taken x p wp) ∙ taken x q wq)
cases None None home gp gq p q wp wq = inr (inl (refl, refl, wp, wq))

allowed : (s : State) (p q n : ℕ) → (p ≡ q → ⊥) → IsReadWrite (sees s p n) → IsReadWrite (sees s q n) → MayBothWriteByGrants s p q n ⊎ MayBothWriteByTransaction s p q n
allowed s p q n differ wp wq =
    elim (cases (live_at s.live n) (donation_at s.donations n) (home_of s n) (grant s.manifest p n) (grant s.manifest q n) p q wp wq) [
      | inl same ↦ absurd (differ same)
      | inr either ↦ elim either [
        | inl g ↦ inl (record { live = g.0; donation = g.1; first = g.2; second = g.3 })
        | inr t ↦ inr (record { transaction = t.0; live = t.1; first = t.2; second = t.3 })
      ]
    ]

pub writers_allowed : (s : State) → IsReached s → AreWritersAllowed s
writers_allowed s r = record { allowed = allowed s }
