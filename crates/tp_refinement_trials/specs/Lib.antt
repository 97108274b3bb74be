pub mod RefinementTrials
