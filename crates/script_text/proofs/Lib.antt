mod WordLemmas
mod LineLemmas
mod LifeLemmas
mod IndexLemmas
mod AssignLemmas
mod FaultLemmas
