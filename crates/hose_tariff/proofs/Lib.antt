pub mod OneNetwork
pub mod PricedNetworks
