-- Steps of `Types/Kit.antt`'s calculus for a walk by hand that calls covered functions on plain data and has an `if` with no `else`. They say nothing of any crate.
--     guards           `if c { a }`, and then the rest: a premise for each outcome of the test. `rest` is a variable here, so antt compares no `Wp` of it, as it would at `exec`
--     assigns-then     the arm a is one assignment: it is made, and the rest runs
--     calls-plain      a call of a function that has no lifetime and no `&mut`, whose `requires` and arguments are had for nothing (`Makes`): the result r comes with what the contract says of it (φ r) and its relation, its machine value written out. No entry of the context moves
--     calls-lent       a call of a function that also takes a `&` or a `&[T]`: the head i of the context gives what the callee asks (a lifetime's token and a copy of what the reference owns), and j, the token, is the head once it has returned
--     and_fact         of several `ensures` of a callee: the first and what the others say are one fact
-- Assumes `Logic`, and `FmC` of the table of calls where there is a call.
use mathlib.Core.Path.{refl, ap, subst}
use mathlib.Core.Bool.{Bool, not}
use mathlib.Core.List.{List, [], ◌∷◌}
use seplogic.Ra.Ura.{Ura}
use lib.Dec.{T}
use mir.Syntax.{Callee, Place, Opd as Operand, Rv as RValue, Body, skip, seq, assign, cond, call}
use mir.Val.{Val, vbool}
use base.Logic.{SProp, ent, sep, emp, via, emp∗, mono_l, fst∗, snd∗}
use base.Fml.{ftrue}
use prog.Wp.{Env, Spot, Calls, Loops, Wp, after_seq, eval_opds}
use types.Logic.{Logic}
use contract.Monad.{fact, fact_mono, fact_use}
use sound.WpLaws.{FmC}
use types.Kit as Kit
use types.Kit.{Item, ‵, raw, ◌⊛◌, some, later, mean, ⋆, push, any_q, post, Goal, Soaks, runs, lands, aim, Seq, Step, step, ◌$◌, move, use1, split, pick, drop, await, regoal}
use types.Run.{Opd, Opds, Rv, Finds, Writes, first, branches, skips, assigns_last}
use denote.RattleType.{RattleType}
use denote.Laws.{Is, Tells, shows}
use denote.Steps.{only, heard, facts}
use denote.Triple.Statement.{Contract, Triple}
use denote.Triple.Call.{calls_from}

module _ {M : Type 1} {𝓤 : Ura M} {𝓛 : Logic 𝓤} {K : Type 0} {Γ : List (Item 𝓤)} {C : Calls 𝓤 𝓛.H} {Λ : Loops 𝓤 𝓛.H} {E : Env 𝓤 𝓛.H} where
  open 𝓛 use {H}

  module _ {p : Kit.Post 𝓤 H} where
    pub guards : K → {c : Operand} {a rest : Body} {y : Bool} → Opd K 𝓛 Γ E c (vbool y)
        → (T y → Seq K 𝓛 Γ (runs C Λ E a (any_q (after_seq 𝓤 H (Wp 𝓤 H C Λ E rest (post 𝓤 H p)) (post 𝓤 H p))))) → (T (not y) → Seq K 𝓛 Γ (runs C Λ E rest p))
        → Seq K 𝓛 Γ (runs C Λ E (seq (cond c a skip) rest) p)
    guards t o held failed = first t $ branches t o held (λ z. skips t $ record { prf = (failed z).prf })

    pub assigns_then : K → {d : Place} {rv : RValue} {rest : Body} {v : Val} {sp : Spot 𝓤 H} {Γ' : List (Item 𝓤)} → Rv K 𝓛 Γ E rv v → Finds K 𝓛 Γ E d sp → Writes K 𝓛 Γ sp.0 sp.1 sp.2 v Γ'
        → Step K 𝓛 Γ' (runs C Λ E rest p) Γ (runs C Λ E (assign d rv) (any_q (after_seq 𝓤 H (Wp 𝓤 H C Λ E rest (post 𝓤 H p)) (post 𝓤 H p))))
    assigns_then t r w s = step (λ k. assigns_last t r w s $ record { prf = k.prf })

module _ {M : Type 1} {𝓤 : Ura M} {𝓛 : Logic 𝓤} {K : Type 0} {Γ : List (Item 𝓤)} where
  -- what a callee on plain data gives back, and the goal at its result's machine value written out
  open 𝓛 use {H}

  module _ (R : RattleType) (vals : R.Denot → List Val) (tl : Tells R (Is R) vals) (Ens : R.Denot → SProp 𝓤) (φ : R.Denot → Type 0) (says-φ : (r : R.Denot) → ent 𝓤 (Ens r) (fact 𝓤 (φ r)))
      (j : Item 𝓤) (Q : Val → SProp 𝓤) (same : (v : Val) → ent 𝓤 (Q v) (mean 𝓛 (later (some (λ (r : R.Denot). (j ⊛ ‵ (R.own_val r (v ∷ []))) ⊛ raw (Ens r)))))) where
    gave : K → (G : Val → Goal 𝓤 H) → ((v : Val) → Soaks (G v)) → ((r : R.Denot) → φ r → Is R r (vals r) → Seq K 𝓛 (j ∷ Γ) (G (only (vals r)))) → (v : Val) → Seq K 𝓛 (raw (Q v) ∷ Γ) (G v)
    gave t G soaks k v =
        use1 𝓛 (later (some (λ (r : R.Denot). (j ⊛ ‵ (R.own_val r (v ∷ []))) ⊛ raw (Ens r)))) (same v) $ await t (soaks v) $ pick t (λ r. split t $ move t (1 ∷ []) $
        use1 𝓛 (raw (fact 𝓤 (φ r))) (says-φ r) $ heard t (φ r) (λ e. split t $ move t (1 ∷ []) $ facts t R (Is R) (shows 𝓛 R) r (v ∷ []) (λ is.
        regoal t G (ap only (tl r (v ∷ []) is)) refl $ k r e (subst (λ (us : List Val). Is R r us) (tl r (v ∷ []) is) is))))

module _ {M : Type 1} {𝓤 : Ura M} {𝓛 : Logic 𝓤} {K : Type 0} {Γ : List (Item 𝓤)} {C : Calls 𝓤 𝓛.H} {E : Env 𝓤 𝓛.H} where
  open 𝓛 use {H}

  module _ (fm : FmC 𝓤 H 𝓛.laws C) {f : Callee} {xs : List Operand} (c : Contract 𝓤) (met : Triple 𝓤 (C f) c) (x : c.Ghost) (pre : ent 𝓤 (emp 𝓤) (c.pre x)) where
    called : Opds K 𝓛 Γ E xs (c.args x) → (G : Val → Goal 𝓤 H) → ((v : Val) → Seq K 𝓛 (raw (c.post x v) ∷ Γ) (G v)) → ent 𝓤 (⋆ 𝓛 Γ) (H.⇛ (eval_opds 𝓤 H E xs (λ us. C f us (λ r. aim 𝓤 H (G r)))))
    called os G k =
        via 𝓤 (eval_opds 𝓤 H E xs (λ us. C f us (λ r. aim 𝓤 H (G r))))
        (os.go (λ us. C f us (λ r. aim 𝓤 H (G r)))
        (via 𝓤 (sep 𝓤 (emp 𝓤) (⋆ 𝓛 Γ)) (emp∗ 𝓤 (⋆ 𝓛 Γ))
        (via 𝓤 (sep 𝓤 (c.pre x) (⋆ 𝓛 Γ)) (mono_l 𝓤 (⋆ 𝓛 Γ) pre)
        (via 𝓤 (sep 𝓤 (C f (c.args x) (c.post x)) (⋆ 𝓛 Γ)) (mono_l 𝓤 (⋆ 𝓛 Γ) (met x))
        (fm f (c.args x) (c.post x) (λ r. aim 𝓤 H (G r)) (⋆ 𝓛 Γ) (λ r. via 𝓤 (⋆ 𝓛 (raw (c.post x r) ∷ Γ)) (push 𝓛 (raw (c.post x r)) Γ) (k r).prf))))))
        (𝓛.laws.⇛_intro _)

module _ {M : Type 1} {𝓤 : Ura M} {𝓛 : Logic 𝓤} {K : Type 0} {Γ : List (Item 𝓤)} {C : Calls 𝓤 𝓛.H} {Λ : Loops 𝓤 𝓛.H} {E : Env 𝓤 𝓛.H} where
  open 𝓛 use {H}

  module _ {p : Kit.Post 𝓤 H} {d : Place} where
    pub calls_plain : K → FmC 𝓤 H 𝓛.laws C → {f : Callee} {xs : List Operand} {rest : Body} (c : Contract 𝓤) → Triple 𝓤 (C f) c → (x : c.Ghost) → ent 𝓤 (emp 𝓤) (c.pre x) → Opds K 𝓛 Γ E xs (c.args x)
        → (R : RattleType) (vals : R.Denot → List Val) → Tells R (Is R) vals → (Ens : R.Denot → SProp 𝓤) (φ : R.Denot → Type 0) → ((r : R.Denot) → ent 𝓤 (Ens r) (fact 𝓤 (φ r)))
        → ((v : Val) → ent 𝓤 (c.post x v) (mean 𝓛 (later (some (λ (r : R.Denot). (‵ ftrue ⊛ ‵ (R.own_val r (v ∷ []))) ⊛ raw (Ens r))))))
        → ((r : R.Denot) → φ r → Is R r (vals r) → Seq K 𝓛 Γ (lands C Λ E d (only (vals r)) rest p)) → Seq K 𝓛 Γ (runs C Λ E (seq (call f xs d) rest) p)
    calls_plain t fm {rest = rest} c met x pre os R vals tl Ens φ says-φ same k =
        record { prf = called fm c met x pre os (λ v. lands C Λ E d v rest p) (gave R vals tl Ens φ says-φ (‵ ftrue) (c.post x) same t (λ v. lands C Λ E d v rest p) (λ v. tt) (λ r e is. drop t $ k r e is)) }

    pub calls_lent : K → FmC 𝓤 H 𝓛.laws C → {f : Callee} {xs : List Operand} {rest : Body} (c : Contract 𝓤) → Triple 𝓤 (C f) c → (x : c.Ghost) (i j : Item 𝓤) → ent 𝓤 (mean 𝓛 i) (c.pre x) → Opds K 𝓛 (i ∷ Γ) E xs (c.args x)
        → (R : RattleType) (vals : R.Denot → List Val) → Tells R (Is R) vals → (Ens : R.Denot → SProp 𝓤) (φ : R.Denot → Type 0) → ((r : R.Denot) → ent 𝓤 (Ens r) (fact 𝓤 (φ r)))
        → ((v : Val) → ent 𝓤 (c.post x v) (mean 𝓛 (later (some (λ (r : R.Denot). (j ⊛ ‵ (R.own_val r (v ∷ []))) ⊛ raw (Ens r))))))
        → ((r : R.Denot) → φ r → Is R r (vals r) → Seq K 𝓛 (j ∷ Γ) (lands C Λ E d (only (vals r)) rest p)) → Seq K 𝓛 (i ∷ Γ) (runs C Λ E (seq (call f xs d) rest) p)
    calls_lent t fm {rest = rest} c met x i j pre os R vals tl Ens φ says-φ same k =
        calls_from t fm i (c.args x) (c.post x) (via 𝓤 (c.pre x) pre (met x)) os (gave R vals tl Ens φ says-φ j (c.post x) same t (λ v. lands C Λ E d v rest p) (λ v. tt) k)

pub and_fact : {M : Type 1} (𝓤 : Ura M) (φ ψ : Type 0) (X : SProp 𝓤) → ent 𝓤 X (fact 𝓤 ψ) → ent 𝓤 (sep 𝓤 (fact 𝓤 φ) X) (fact 𝓤 (φ × ψ))
and_fact 𝓤 φ ψ X h = fact_use 𝓤 φ (fst∗ 𝓤 (fact 𝓤 φ) X) (λ x. via 𝓤 X (snd∗ 𝓤 (fact 𝓤 φ) X) (via 𝓤 (fact 𝓤 ψ) h (fact_mono 𝓤 ψ (φ × ψ) (λ y. (x, y)))))
